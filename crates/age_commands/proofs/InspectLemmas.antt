-- The result of `inspect` from that of reading a header, and its table from the parts.
use Rattle.age_commands.proofs.Common.{◌≡◌, ◌∙◌, ◌++◌, ◌∷◌, ◌+◌, ◌<◌, ℕ, List, ap, arith, get_or, length, take, Option, Bool, Ok, Err, refl, [], subst, sym, append_assoc, append-nil, length-take-le, take_more, ⊤, ◌^◌, ◌-◌, OnOk, Result, codes, min, Appends, Appends-trans, Keeps-refl, Bytes, Flow, Known, OfGiven, Seen, flow, move_of, Head, HeaderParts, StanzaParts, of_any, of_map, of_more, Fault, Bounds, header_fault, Inspecting, InspectsText, IsShown, IsTable, OfShown, check_of, first_lines, last_lines, row, rows}
use Rattle.age_header.specs.declared.fault.HeaderFault.{HeaderFault}
use Rattle.age_header.specs.declared.fault.HeaderFault.TheVariants as header
use Rattle.age_header.specs.Base64.{IsBase64}
use Rattle.age_header.specs.Reader.{Refuses}
use Rattle.age_header.proofs.VerdictUniqueLemmas.{found_again}
use Rattle.age_file.specs.Inspect.{Inspects}
use Rattle.age_file.specs.Verdict.{finding}
use Rattle.age_commands.specs.declared.inspect.Check.{Check}

missed_of : (limits : Bounds) (raw : Bool) (key : Option Bytes) (b : Bytes) (old : Known) (e : HeaderFault)
    → Refuses b limits.max_header e
    → InspectsText limits raw key b (move_of old old) (Err (header_fault e))
missed_of limits raw key b old header.Read h = Keeps-refl old
missed_of limits raw key b old header.Memory h = Keeps-refl old
missed_of limits raw key b old e h = (e, h, refl, Keeps-refl old)

-- if no header was read, `inspect` returns the reader's fault, and nothing was written
pub missed : {limits l : Bounds} (raw : Bool) (key : Option Bytes) {from to : Seen} (old : Known) {fault : Fault}
    → l ≡ limits → Inspects l (flow from to) (Err fault)
    → Inspecting limits raw key (flow from to) (move_of old old) (Err fault)
missed {limits} raw key old same (e, is, reads) =
    rw is (of_map (rw same at reads) (λ b refuses. missed_of limits raw key b old e refuses))

-- a header that was read, with what was shown of it, is as `OfShown` says
pub shown_of : {limits l : Bounds} (raw : Bool) (key : Option Bytes) {from to : Seen} {h : HeaderParts}
    {checked : Check} (P : Check → Bytes → Type 0) (text : Bytes) → l ≡ limits → Inspects l (flow from to) (Ok h)
    → checked ≡ check_of key h → IsShown raw h checked text → P checked text
    → OfGiven (flow from to) (λ b. OfShown limits raw key b P)
shown_of {limits} raw key {h = h} P text same (front, took, found) made spelled holds =
    of_more took (λ d end. record {
      header = h;
      text = front;
      verdict = found_again front limits.max_header (finding front h) (rw same at found) d;
      shown = text;
      is = subst (λ (x : Check). IsShown raw h x text) made spelled;
      holds = subst (λ (x : Check). P x text) made holds;
    })

-- the rows of one more stanza
rows_push : (n : ℕ) (xs : List StanzaParts) (x : StanzaParts)
    → rows n (xs ++ x ∷ []) ≡ rows n xs ++ row (n + length xs) x
rows_push n [] x = append-nil (row n x) ∙ ap (λ k. row k x) (omega arith)
rows_push n (y ∷ xs) x = grind (arith, rows_push (n + 1) xs x, append_assoc)

pub rows_more : (old mid new : Known) (xs : List StanzaParts) {x : StanzaParts} (d : StanzaParts) {i : ℕ}
    → i < length xs
    → x ≡ get_or xs i d
    → Appends old mid (rows 0 (take i xs)) → Appends mid new (row i x) → Appends old new (rows 0 (take (i + 1) xs))
rows_more old mid new xs {x} d {i} low is before one =
    let at : rows 0 (take (i + 1) xs) ≡ rows 0 (take i xs) ++ row i x =
    grind (arith, take_more xs i d low, rows_push 0 (take i xs) x, length-take-le) in
    rw at (Appends-trans old mid new (rows 0 (take i xs)) (row i x) before one)

-- the parts of a table, written one after the other, are the table
pub tabled : {E : Type 0} {header : HeaderParts} (checked : Check) (one two three four five six : Known)
    (characters : Bytes) {text : Bytes} {n : ℕ} (r : Result ⊤ E)
    → n ≡ min (length text) (2 ^ 64 - 1) → IsBase64 header.mac characters → Head header.stanzas header.mac text
    → Appends one two (first_lines (length header.stanzas)) → Appends two three (rows 0 header.stanzas)
    → Appends three four (codes "mac ") → Appends four five characters
    → OnOk r (Appends five six (last_lines n checked))
    → OnOk r ((shown : Bytes) × IsTable header checked shown × Appends one six shown)
tabled {header} checked one two three four five six characters {text} {n} (Err e) is mac whole a b c d f = tt
tabled {header} checked one two three four five six characters {text} {n} (Ok u) is mac whole a b c d f =
    let prefix : Bytes = first_lines (length header.stanzas) in
    let lines : Bytes = rows 0 header.stanzas in (
      prefix ++ lines ++ codes "mac " ++ characters ++ last_lines n checked,
      record {
        characters = characters;
        text = text;
        mac = mac;
        whole = whole;
        spelled = ap (λ k. first_lines (length header.stanzas) ++ rows 0 header.stanzas ++ codes "mac " ++ characters
            ++ last_lines k checked) is;
      },
      Appends-trans one five six (prefix ++ lines ++ codes "mac " ++ characters) (last_lines n checked)
          (Appends-trans one four five (prefix ++ lines ++ codes "mac ") characters
          (Appends-trans one three four (prefix ++ lines) (codes "mac ")
          (Appends-trans one two three prefix lines a b) c)
          d) f,
    )

pub ruleset inspects = (missed, of_any)
