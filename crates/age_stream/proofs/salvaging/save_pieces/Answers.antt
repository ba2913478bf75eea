use Rattle.age_stream.proofs.Common.{rules, arith, ◌∙◌, ap, refl, inr, take, length-take-le, Salvaged}
use Rattle.age_stream.proofs.OpeningLemmas.{ahead_one}
use Rattle.age_stream.proofs.SalvageLemmas.{ends_many, ends_write, salvaging_more, salvaging_none, saves_last, saves_many, saves_read, saves_write}
use Rattle.age_stream.proofs.salvaging.save_pieces.Goals as goal

pub loop-done-init : goal.loop-done-init
loop-done-init g c = record {
  size = c.requires.size;
  ahead = omega arith;
  within = omega arith;
  saved = salvaging_none refl;
  silent = λ none. refl;
  reads = refl;
  writes = refl;
}

pub returns-then-done-max-clause-saves : goal.returns-then-done-max-clause-saves
returns-then-done-max-clause-saves g c =
    saves_many c.loop-done.invariant.saved (omega (arith, c.loop-done.invariant.within))

pub returns-then-done-max-clause-ends : goal.returns-then-done-max-clause-ends
returns-then-done-max-clause-ends g c =
    inr (ends_many c.loop-done.invariant.saved (omega (arith, c.loop-done.invariant.within)))

pub returns-in_default-clause-saves : goal.returns-in_default-clause-saves
returns-in_default-clause-saves g c =
    saves_read c.loop-done.invariant.saved c.args.max c.in_default.ensures.lost

pub returns-in-Err-clause-saves : goal.returns-in-Err-clause-saves
returns-in-Err-clause-saves g c =
    saves_write c.loop-done.invariant.saved c.in-Ok.ensures.reads c.read_piece.ensures.len
    c.save_first-len.ensures.part c.args.max (g.W.Sink.taken c.write_all.new.out) c.in-Err.ensures.text

pub returns-in-Err-clause-ends : goal.returns-in-Err-clause-ends
returns-in-Err-clause-ends g c =
    inr (ends_write c.loop-done.invariant.saved c.in-Ok.ensures.reads c.read_piece.ensures.len
    (take c.save_first-len.result.0 c.save_first-len.new.bytes) c.in-Err.ensures.text c.args.max)

pub returns-then-n-le-SEALED_CHUNK_SIZE-clause-saves : goal.returns-then-n-le-SEALED_CHUNK_SIZE-clause-saves
returns-then-n-le-SEALED_CHUNK_SIZE-clause-saves g c =
    let first = c.save_first-len.ensures in
    let wide = length-take-le c.save_first-len.result.0 c.save_first-len.new.bytes (omega
    (arith, first.len, first.text))
    in
    saves_last c.loop-done.invariant.saved c.in-Ok.ensures.reads c.read_piece.ensures.len first.part
    (g.W.Sink.taken c.write_all.new.out) (g.L.Losses.lost c.note.new.losses) wide c.in-Ok-write_all.ensures.text
    c.note.ensures.reports c.note.ensures.counts (omega arith) (omega arith)

pub loop-done-preserved : goal.loop-done-preserved
loop-done-preserved g c =
    let first = c.save_first-len.ensures in
    let wide = length-take-le c.save_first-len.result.0 c.save_first-len.new.bytes (omega
    (arith, first.len, first.text))
    in
    record {
      size = first.len;
      ahead = omega arith;
      within = omega (arith, ap (λ (x : Salvaged). x.chunks) c.note.ensures.counts);
      saved = salvaging_more c.loop-done.invariant.saved c.in-Ok.ensures.reads c.read_piece.ensures.len first.part
          (g.W.Sink.taken c.write_all.new.out) (g.L.Losses.lost c.note.new.losses) wide
          c.in-Ok-write_all.ensures.text c.note.ensures.reports c.note.ensures.counts (omega arith)
          (first.full (omega arith)) (ahead_one c.save_first-len.new.bytes first.len ∙ first.rest);
      silent = λ none. c.note.ensures.silent none
          ∙ c.loop-done.invariant.silent (omega (arith, none, ap (λ (x : Salvaged). x.lost) c.note.ensures.counts));
      reads = search rules;
      writes = search rules;
    }
