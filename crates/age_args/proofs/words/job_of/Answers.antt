use Rattle.age_args.proofs.Common.{arith, string_bytes}
use Rattle.age_args.proofs.RowLemmas.{has_number, in_range, names_input}
use Rattle.age_args.proofs.words.job_of.Goals as goal

pub number_or-requires : goal.number_or-requires
number_or-requires c = search (has_number, c.requires.work)

pub number_or-requires-2 : goal.number_or-requires-2
number_or-requires-2 c = search (has_number, c.requires.max_work)

pub number_or-requires-3 : goal.number_or-requires-3
number_or-requires-3 c = search (has_number, c.requires.max_header)

pub number_or-requires-4 : goal.number_or-requires-4
number_or-requires-4 c = search (has_number, c.requires.at)

pub number_or-requires-5 : goal.number_or-requires-5
number_or-requires-5 c = search (has_number, c.requires.len)

pub returns-clause-ranges : goal.returns-clause-ranges
returns-clause-ranges c = record {
  work = rw c.number_or.ensures (search (in_range, c.requires.work, arith));
  max_work = rw c.number_or-2.ensures (search (in_range, c.requires.max_work, arith));
  max_header = rw c.number_or-3.ensures (search (in_range, c.requires.max_header, arith));
  at = rw c.number_or-4.ensures (search (in_range, c.requires.at, arith));
  len = rw c.number_or-5.ensures (search (in_range, c.requires.len, arith));
  input = names_input string_bytes c.args.command c.in_ok-text_of-3.field-0 c.in_ok-text_of-3.ensures c.requires.input;
}
