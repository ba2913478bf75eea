use Rattle.age_file.proofs.Common.{rules, ◌∙◌, sym, take}
use Rattle.age_file.proofs.AtStateLemmas.{gives_on, within_on}
use Rattle.age_stream.proofs.ReadAtLemmas.{has_at}
use Rattle.age_file.proofs.at_source.AtSourceSource.read.Goals as goal

pub returns-in-Ok-clause-gave : goal.returns-in-Ok-clause-gave
returns-in-Ok-clause-gave g c =
    let buf = c.read_at-read.new.buf in
    rw (sym c.self.view_is)
    (gives_on g.D.ReadAt.bytes g.D.ReadAt.gave (record { dev = c.self.inside.dev.now; at = c.self.inside.at })
    _ c.read_at-read.ensures.stay c.read_at-read.ensures.stays_given (g.D.ReadAt.found c.self.inside.dev.now) buf
    c.in-Ok.is c.read_at-read.ensures.offsets c.self.invariant.2 (search rules) (search rules)
    c.read_at-read.ensures.end (λ b is. has_at b (take c.in-Ok.n buf) c.self.inside.at
    (g.met.D.ReadAt.agrees c.read_at-read.new.self b (c.read_at-read.ensures.stay ∙ is))
    (rw c.in-Ok.is at c.read_at-read.ensures.read)) c.read_at-read.ensures.read)

pub invariant_of-self : goal.invariant_of-self
invariant_of-self g c =
    let buf = c.read_at-read.new.buf in
    let within = within_on (g.D.ReadAt.bytes c.self.inside.dev.now) c.self.inside.at
    c.saturating_add-self-inside.result c.in-Ok.n buf c.self.invariant.2 (search rules) (search rules) (λ b is.
    has_at b (take c.in-Ok.n buf) c.self.inside.at
    (g.met.D.ReadAt.agrees c.read_at-read.new.self b (c.read_at-read.ensures.stay ∙ is))
    (rw c.in-Ok.is at c.read_at-read.ensures.read)) in
    rw c.read_at-read.ensures.stay (c.self.invariant.0, search rules, within, c.self.invariant.3)
