-- The text of a stanza that is written.
use Rattle.agefile.proofs.Common.{◌≡◌, ℕ, suc, ◌-◌, ◌<◌, ◌≤◌, List, [], ◌∷◌, ◌++◌, length, take, drop, codes, flat_map, get_or, sym, ◌∙◌, arith, inr, append_assoc, length-append, None, AllByRecursion, IsUtf8, append-nil, drop_at, take_at, Bytes, IsArgument, StanzaParts, version_line, length-version_line, stanza_text_is, Report, Gives, Returns, GivesOwn, refusal_code, words}
use Rattle.age_header.specs.declared.stanza.StanzaError.{StanzaError}
use Rattle.age_header.specs.Stanza.{IsStanzaError}
use Rattle.age_header.specs.Text.{IsHeaderValue, IsWhole, signed_text, stanza_text}
use Rattle.agefile.specs.Wrapping.{GivesText}

spelled : (ss : List StanzaParts) → signed_text ss ≡ version_line ++ (flat_map stanza_text ss ++ codes "---")
unfolding signed_text
spelled ss = append_assoc version_line (flat_map stanza_text ss) (codes "---")

-- the header through `---` has at least 25 bytes
pub signed_least : (ss : List StanzaParts) → 25 ≤ length (signed_text ss)
signed_least ss = grind (arith, spelled, length-version_line, length-append)

-- the text between the version line and `---` is that of the stanzas
between : (ss : List StanzaParts) → drop 22 (take (length (signed_text ss) - 3) (signed_text ss))
    ≡ flat_map stanza_text ss
between ss =
    let body : Bytes = flat_map stanza_text ss in
    let split : signed_text ss ≡ (version_line ++ body) ++ codes "---" = spelled ss
    ∙ sym (append_assoc version_line body (codes "---")) in
    let front : length (version_line ++ body) ≡ length ((version_line ++ body) ++ codes "---") - 3 =
    omega (arith, length-append (version_line ++ body) (codes "---")) in
    rw (split, take_at (version_line ++ body) (codes "---") _ front)
    (drop_at version_line body 22 length-version_line)

pub text_given : (s : StanzaParts) (ss : List StanzaParts) {mac : Bytes} (text : Bytes) {part old new : Bytes}
    {report : Report} {code : ℕ} → ss ≡ s ∷ [] → IsHeaderValue ss mac → text ≡ signed_text ss
    → part ≡ drop 22 (take (length text - 3) text) → Gives part None old new report code
    → GivesText s old new report code
text_given s ss text {part} {old} {new} {report} {code} one whole is cut gives =
    let mine : IsWhole s = (rw one at whole.each).0 in
    let same : part ≡ stanza_text s = rw (is, between ss, one, append-nil) at cut in
    inr (stanza_text s, stanza_text_is s mine, rw same at gives)

-- ---- a caller's own arguments

pub own_given : {s : StanzaParts} {args body old new : Bytes} {report : Report} {code : ℕ} → IsUtf8 args
    → s.args ≡ words args → s.body ≡ body → GivesText s old new report code → GivesOwn args body old new report code
own_given a b c d = grind arith

at_index : (xs : List Bytes) (i : ℕ) (d : Bytes) → AllByRecursion IsArgument xs → i < length xs
    → IsArgument (get_or xs i d)
at_index (x ∷ xs) (suc i) d all low = at_index xs i d all.1 (omega (arith, low))
at_index xs i d all low = grind arith

pub own_refused : {args body old new : Bytes} {report : Report} {code : ℕ} (error : StanzaError)
    → IsStanzaError (words args) error → Returns (refusal_code error) None old new report code
    → GivesOwn args body old new report code
own_refused a b c = grind (arith, at_index)
