use Rattle.age_commands.proofs.SalvageLemmas.{come_no_more, read_more, read_no_more}
use Rattle.std.specs.Io.Buffered.{reader_remaining}
use Rattle.std.proofs.Common.{rules}
use Rattle.age_commands.proofs.skipping.SkippingSourceSource.read.Goals as goal

pub returns-in_default-clause-gave : goal.returns-in_default-clause-gave
returns-in_default-clause-gave g c =
    let remaining = reader_remaining (λ r. g.R.Read.remaining r.now) in
    let s = c.args.self.now in
    record {
      consumes = rw c.skip.ensures.stays.0
          (come_no_more s.skips remaining s.reader c.in-Err.ensures.bytes c.skip.ensures.moved);
      grew = λ past read. read_no_more s.reached s.skips _ remaining s.reader past c.skip.ensures.reached
          c.in-Err.ensures.bytes c.skip.ensures.moved read;
    }

pub returns-after-is_end-clause-gave : goal.returns-after-is_end-clause-gave
returns-after-is_end-clause-gave g c = (
  record {
    consumes = search rules;
    grew = λ past read. read_more c.args.self.now.reached c.if-is_end.self _ _ _ _ past _ c.in-Ok.ensures.bytes.0
        (λ is. search (rules, is)) (λ is. search (rules, is)) read;
  },
  search rules,
)
