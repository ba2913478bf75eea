-- The results of calls on a header: its summary, and its stanzas.
use Rattle.std.specs.Prelude.{◌≡◌, ◌⊎◌, ◌∷◌, ◌<◌, ◌≤◌, ◌++◌}
use Rattle.agefile.specs.Words.{ℕ, List, [], length, None, Result, Ok, Err, drop, map, flat_map, join_by, Bytes, HeaderFault, HeaderParts, StanzaParts, Found, HeaderVerdict, Fault, OutOfMemory, header_fault, Report}
use Rattle.agefile.specs.declared.inspecting.StanzaSummary.{StanzaSummary}
use Rattle.agefile.specs.declared.inspecting.Summary.{Summary}
use Rattle.agefile.specs.Codes.{ok, out_of_memory, too_small}
use Rattle.agefile.specs.Sizes.{limits}
use Rattle.agefile.specs.Report.{Refuses, Returns, report_of}

-- the header at the start of b, or its fault, or out of memory
abbrev pub HeaderOf : (b : Bytes) (result : Result HeaderParts Fault) → Type 0
HeaderOf b (Ok h) =
    (text : Bytes)
    × HeaderVerdict b limits.max_header
    (Ok (record { stanzas = h.stanzas; mac = h.mac; text = text }))
HeaderOf b (Err fault) =
    (fault ≡ OutOfMemory)
    ⊎ ((reason : HeaderFault) × HeaderVerdict b limits.max_header (Err reason)
    × (fault ≡ header_fault reason))

-- the summary of a header
abbrev pub summary_of : Found → Summary
summary_of found =
    record { header_len = length found.text; stanzas = length found.stanzas; mac = found.mac }

-- the summary of the header is written; or its fault is returned, and the summary is unchanged
abbrev pub SumsUp : (verdict : Result Found HeaderFault) (old new : Summary) (report : Report)
    (code : ℕ) → Type 0
SumsUp (Ok found) old new report code =
    (code ≡ ok) × (report ≡ report_of 0 None) × (new ≡ summary_of found)
SumsUp (Err reason) old new report code = Refuses (header_fault reason) old new report code

-- the result of inspecting b, by its header verdict; or out of memory, with the summary unchanged
abbrev pub Inspected : (b : Bytes) (old new : Summary) (report : Report) (code : ℕ) → Type 0
Inspected b old new report code =
    Returns out_of_memory None old new report code
    ⊎ ((verdict : Result Found HeaderFault) × HeaderVerdict b limits.max_header verdict
    × SumsUp verdict old new report code)

-- the arguments of a stanza, joined by single spaces
abbrev pub arguments_text : List Bytes → Bytes
arguments_text args = join_by (λ arg. arg) (32 ∷ []) args

-- the summary of a stanza
abbrev pub stanza_summary : StanzaParts → StanzaSummary
stanza_summary s =
    record {
      args = length s.args;
      args_len = length
          (arguments_text s.args);
      body_len = length s.body;
    }

-- the text of a list of stanzas: for each its arguments, joined by single spaces, and its body
abbrev pub list_text : List StanzaParts → Bytes
list_text stanzas = flat_map (λ s. arguments_text s.args ++ s.body) stanzas

-- the length of this text, and the number of stanzas
abbrev pub report_of_list : (sizes : List StanzaSummary) (text : Bytes) → Report
report_of_list sizes text = record { len = length text; place = length sizes; detail = 0 }

-- the array begins with the sizes and the buffer with the text; the rest of both is unchanged
pub record ListFits (sizes before after : List StanzaSummary) (text old new : Bytes)
    (report : Report) (code : ℕ) : Type 0 where
  pub sizes_fit : length sizes ≤ length before
  pub text_fits : length text ≤ length old
  pub returned : code ≡ ok
  pub reported : report ≡ report_of_list sizes text
  pub array : after ≡ sizes ++ drop (length sizes) before
  pub buffer : new ≡ text ++ drop (length text) old

-- the array or the buffer is too small, and both are unchanged; the report has the sizes needed
pub record ListExceeds (sizes before after : List StanzaSummary) (text old new : Bytes)
    (report : Report) (code : ℕ) : Type 0 where
  pub exceeds : (length before < length sizes) ⊎ (length old < length text)
  pub returned : code ≡ too_small
  pub reported : report ≡ report_of_list sizes text
  pub array : after ≡ before
  pub buffer : new ≡ old

-- sizes and a text are returned if they fit
abbrev pub GivesList : (sizes before after : List StanzaSummary) (text old new : Bytes)
    (report : Report) (code : ℕ) → Type 0
GivesList sizes before after text old new report code =
    ListFits sizes before after text old new report code
    ⊎ ListExceeds sizes before after text old new report code

-- the summaries and the text of these stanzas are returned if they fit
abbrev pub GivesStanzas : (stanzas : List StanzaParts) (before after : List StanzaSummary)
    (old new : Bytes) (report : Report) (code : ℕ) → Type 0
GivesStanzas stanzas before after old new report code =
    GivesList (map stanza_summary stanzas) before after (list_text stanzas) old new report code

-- the stanzas are returned if they fit; or the fault is returned, with array and buffer unchanged
abbrev pub StanzasOf : (verdict : Result Found HeaderFault) (before after : List StanzaSummary)
    (old new : Bytes) (report : Report) (code : ℕ) → Type 0
StanzasOf (Ok found) before after old new report code =
    GivesStanzas found.stanzas before after old new report code
StanzasOf (Err reason) before after old new report code =
    Refuses (header_fault reason) before after report code × (new ≡ old)

-- the result of listing the stanzas of b's header; or out of memory
abbrev pub InspectsStanzas : (b : Bytes) (before after : List StanzaSummary) (old new : Bytes)
    (report : Report) (code : ℕ) → Type 0
InspectsStanzas b before after old new report code =
    (Returns out_of_memory None before after report code × (new ≡ old))
    ⊎ ((verdict : Result Found HeaderFault) × HeaderVerdict b limits.max_header verdict
    × StanzasOf verdict before after old new report code)
