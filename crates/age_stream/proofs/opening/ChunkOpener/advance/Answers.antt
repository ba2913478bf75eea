use Rattle.age_stream.proofs.Common.{rules, ◌∙◌, sym, with_items, seen_by, written_all}
use Rattle.age_stream.proofs.OpeningLemmas.{advances_none, advances_ok, advances_err}
use Rattle.age_stream.proofs.opening.ChunkOpener.advance.Goals as goal

pub returns-in-Ok-clause-opens : goal.returns-in-Ok-clause-opens
returns-in-Ok-clause-opens g c =
    let o = c.self.inside in
    advances_ok o.ahead o.len o.buf.items c.self.view_is (search rules)
    (search rules) c.as_mut_slice.ensures.value c.self.invariant.0 c.self.invariant.1
    c.in-Ok.ensures.len
    (written_all c.next_piece.new.bytes o.buf.items o.buf.len (c.in-Ok.ensures.len ∙ sym c.self.invariant.0)
    (search rules))
    c.self.invariant.4 c.in-Ok.ensures.within c.in-Ok.ensures.size.1 c.in-Ok.ensures.opens

pub returns-in-Err-clause-opens : goal.returns-in-Err-clause-opens
returns-in-Err-clause-opens g c =
    let o = c.self.inside in
    advances_err o.ahead o.len o.buf.items (with_items o.buf c.next_piece.new.bytes).items c.self.view_is
    (search rules) c.as_mut_slice.ensures.value c.self.invariant.0 c.self.invariant.1 c.self.invariant.4
    c.in-Err.ensures.opens c.in-Err.ensures.at

pub returns-then-not-self-clause-opens : goal.returns-then-not-self-clause-opens
returns-then-not-self-clause-opens g c =
    let o = c.self.inside in
    advances_none (seen_by g.S.Source.to_come g.S.Source.gave c.args.source.now) o.ahead o.len o.buf.items
    c.self.view_is (search rules) (search rules) c.self.invariant.4
