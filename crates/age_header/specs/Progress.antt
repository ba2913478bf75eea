-- The state of a reader's progress.
use Rattle.std.specs.Prelude.{List}
use Rattle.std.specs.declared.option.Option.{Option}
use Rattle.std.specs.declared.option.Option.TheVariants.{None, Some}
use Rattle.age_header.specs.Header.{StanzaParts}
use Rattle.age_header.specs.Steps.{State, between, within}
use Rattle.age_header.specs.declared.progress.Progress.TheInside.{Inside}

-- the state after these stanzas, and within the open one if there is one
abbrev state_with : (ss : List StanzaParts) (begun : Option StanzaParts) → State
state_with ss None = between ss
state_with ss (Some s) = within ss s.args s.body

-- the state that contracts see in place of a `Progress`
abbrev pub state_of : Inside → State
state_of p = state_with p.stanzas.items p.open
