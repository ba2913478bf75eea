-- The results of calls that write a stanza.
use Rattle.std.specs.Prelude.{◌⊎◌, ◌==◌}
use Rattle.agefile.specs.Words.{ℕ, List, None, slice_split, Bytes, AreArguments, IsStanza, StanzaParts, Report}
use Rattle.std.specs.Str.{IsUtf8}
use Rattle.age_header.specs.declared.stanza.StanzaError.{StanzaError}
use Rattle.age_header.specs.declared.stanza.StanzaError.TheVariants.{Memory}
use Rattle.agefile.specs.Codes.{bad_arguments, out_of_memory}
use Rattle.agefile.specs.Giving.{Gives}
use Rattle.agefile.specs.Report.{Returns}

-- the stanza's text is returned if it fits the buffer; or out of memory
abbrev pub GivesText : (stanza : StanzaParts) (old new : Bytes) (report : Report) (code : ℕ)
    → Type 0
GivesText stanza old new report code =
    Returns out_of_memory None old new report code
    ⊎ ((text : Bytes) × IsStanza stanza text × Gives text None old new report code)

-- the words of a text, split at each space; a word may be empty
abbrev pub words : Bytes → List Bytes
words text = slice_split (λ c. c == 32) text

-- the code for an error of a caller's stanza
abbrev pub refusal_code : StanzaError → ℕ
refusal_code Memory = out_of_memory
refusal_code _ = bad_arguments

-- UTF-8 whose words are arguments, each of one or more visible ASCII characters
abbrev pub AreWords : Bytes → Type 0
AreWords args = IsUtf8 args × AreArguments (words args)

-- like `GivesText`, for a caller's own stanza; or `bad_arguments` if `args` are not words
abbrev pub GivesOwn : (args body old new : Bytes) (report : Report) (code : ℕ) → Type 0
GivesOwn args body old new report code =
    Returns out_of_memory None old new report code
    ⊎ (((AreWords args → ⊥) × Returns bad_arguments None old new report code)
    ⊎ (AreWords args × GivesText (record { args = words args; body = body }) old new report code))
