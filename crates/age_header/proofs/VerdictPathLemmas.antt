-- Paths of whole lines from the version line on: what they say of the bytes that were read, and what they decide.
use Rattle.age_header.proofs.Common.{inl, inr, ◌≡◌, ◌⊎◌, ℕ, ◌+◌, ◌-◌, ◌<◌, ◌≤◌, List, [], ◌∷◌, ◌++◌, length, length-append, take, refl, sym, ap, arith, append_assoc, ◌∙◌, codes, append-nil, append_cancel_left, flat_map_more, cases_lt, take-append-add, AllByRecursion, Bytes, line, version_line, version_size, State, between, Leads, IsLineText, lines_text, IsViable, IsHeader, AreLines, Decides, BeginsAsAge, IsUndecided, Gave, Seen, flow}
use Rattle.age_header.proofs.DeviceLemmas.{gave_then}
use Rattle.age_header.proofs.LinesLemmas.{All-append, All-split, lines_prefix, no_line, same_lines}
use Rattle.age_header.proofs.HeaderLemmas.{head_path, past_end, end_text}
use Rattle.age_header.proofs.StepsLemmas.{Spells, step_spells, spells_prefix, Leads-split}

unfoldable pub version_text : Bytes
version_text = codes "age-encryption.org/v1"

pub version_is_text : IsLineText version_text
unfolding version_text
version_is_text = omega arith

pub whole_lines : (ls : List Bytes) → lines_text (version_text ∷ ls) ≡ version_line ++ lines_text ls
unfolding version_line version_text
whole_lines ls = refl

begins : (x : Bytes) → BeginsAsAge (version_line ++ x)
unfolding version_line
begins x = refl

pub leads_spell : (s t : State) (ls : List Bytes) (text : Bytes) → Leads s ls t → Spells s text
    → Spells t (text ++ lines_text ls)
leads_spell s t [] text h k = rw (append-nil, ← h) k
leads_spell s t (l ∷ ls) text h k =
    rw append_assoc at (leads_spell h.0 t ls (text ++ line l) h.2 (step_spells s l h.0 text k h.1))

-- lines that lead somewhere are viable
leads_viable : (ls : List Bytes) (s : State) → Leads (between []) ls s → IsViable (version_line ++ lines_text ls)
leads_viable ls s h = inr (spells_prefix s (lines_text ls) (leads_spell (between []) s ls [] h refl))

-- lines that lead somewhere are not a header
leads_no_header : (ls : List Bytes) (s : State) → AllByRecursion IsLineText ls → Leads (between []) ls s
    → IsHeader (version_line ++ lines_text ls) → ⊥
leads_no_header ls s each h (stanzas, mac, head) =
    let p = head_path head in
    let ends : List Bytes = p.lines ++ end_text p.characters ∷ [] in
    let same = same_lines ls ends each p.each (append_cancel_left version_line _ _ p.is) in
    past_end p.lines [] stanzas p.characters s p.leads (rw same at h)

-- the lines after the version line that were read, and the room that is left under the limit
pub record LinesRead (a mid : Seen) (max room count : ℕ) : Type 0 where
  pub ls : List Bytes
  pub each : AllByRecursion IsLineText ls
  pub read : Gave (flow a mid) (version_line ++ lines_text ls)
  pub size : room + version_size + length (lines_text ls) ≡ max
  pub lines : count ≡ length ls + 1

-- one line more
abbrev pub line_read : {a mid new : Seen} {max room count : ℕ} (text : Bytes) → LinesRead a mid max room count
    → Gave (flow mid new) (line text) → IsLineText text → length text < room
    → LinesRead a new max (room - (length text + 1)) (count + 1)
line_read text p took is low = record {
  ls = p.ls ++ text ∷ [];
  each = All-append IsLineText p.ls (text ∷ []) p.each (is, tt);
  read = rw (flat_map_more line version_line p.ls text) at (gave_then p.read took);
  size = omega (arith, ap length (flat_map_more line [] p.ls text), length-append {A = ℕ}, p.size);
  lines = omega (arith, p.lines, length-append p.ls (text ∷ []));
}

-- the lines read, and the state to which they lead
pub record Reached (a mid : Seen) (max room count : ℕ) (s : State) : Type 0 where
  pub so_far : LinesRead a mid max room count
  pub open so_far use *
  pub leads : Leads (between []) ls s

-- the empty text is not a header
pub no_empty : IsHeader [] → ⊥
unfolding version_line
no_empty (stanzas, mac, head) = let is = head.spelled in cc

-- any number of first lines of a path, even all, are viable and not a header
path_first : (ls : List Bytes) (s : State) (cap tail : Bytes) → AllByRecursion IsLineText ls
    → Leads (between []) ls s → cap ≡ (version_line ++ lines_text ls) ++ tail
    → (ks : List Bytes) → AreLines ks cap → length ks ≤ length ls + 1
    → IsViable (lines_text ks) × (IsHeader (lines_text ks) → ⊥)
path_first ls s cap tail each leads is [] k n = (inl refl, no_empty)
path_first ls s cap tail each leads is (k ∷ ks) h n =
    let same : lines_text (k ∷ ks) ++ h.rest ≡ lines_text (version_text ∷ ls) ++ tail =
    rw whole_lines (sym h.prefix ∙ is) in
    let (more, lines, _) = lines_prefix (k ∷ ks) (version_text ∷ ls) h.rest tail h.each (version_is_text, each) same
    (omega arith) in
    let head : k ≡ version_text = cc in
    let back : ls ≡ ks ++ more = cc in
    let (mid, lead, _) = Leads-split (between []) s ks more (rw back at leads) in
    rw (head, whole_lines ks) (leads_viable ks mid lead, leads_no_header ks mid h.each.1 lead)

pub both : {A B : Type 0} → A ⊎ (B → ⊥) → B → (A → ⊥) → ⊥
both (inl a) b none = none a
both (inr n) b none = n b

-- a path that no whole line follows begins as age and decides nothing
pub path_open : (ls : List Bytes) (s : State) (cap tail : Bytes) → AllByRecursion IsLineText ls
    → Leads (between []) ls s → cap ≡ (version_line ++ lines_text ls) ++ tail → IsLineText tail
    → BeginsAsAge cap × IsUndecided cap
path_open ls s cap tail each leads is text =
    (rw (is ∙ append_assoc version_line (lines_text ls) tail) (begins (lines_text ls ++ tail)), undecided)
  where
    undecided : IsUndecided cap
    undecided ks d = elim (cases_lt (length ls + 1) (length ks)) [
      | inl more ↦
          let same : lines_text (version_text ∷ ls) ++ tail ≡ lines_text ks ++ d.lines.rest =
          rw whole_lines (sym is ∙ d.lines.prefix) in
          let (after, lines, left) = lines_prefix (version_text ∷ ls) ks tail d.lines.rest (version_is_text, each)
          d.lines.each same (omega arith) in
          let none = no_line after d.lines.rest tail text left in
          absurd (omega (arith, ap length (rw (none, append-nil ls) at lines)))
      | inr few ↦
          let (viable, no_header) = path_first ls s cap tail each leads is ks d.lines few in
          both d.decided viable no_header
    ]

pub take_past : (x n : Bytes) (m : ℕ) → length x ≤ m → take m (x ++ n) ≡ x ++ take (m - length x) n
take_past x n m h = grind (arith, take-append-add x n (m - length x))

-- if a path with one more whole line is a header or not viable, these lines decide
pub path_decides : (ls : List Bytes) (s : State) (text b n : Bytes) (max : ℕ)
    → AllByRecursion IsLineText (ls ++ text ∷ []) → Leads (between []) ls s
    → b ≡ (version_line ++ lines_text (ls ++ text ∷ [])) ++ n
    → length (version_line ++ lines_text (ls ++ text ∷ [])) ≤ max
    → IsHeader (version_line ++ lines_text (ls ++ text ∷ []))
    ⊎ (IsViable (version_line ++ lines_text (ls ++ text ∷ [])) → ⊥)
    → BeginsAsAge (take max b) × Decides (version_text ∷ (ls ++ text ∷ [])) (take max b)
path_decides ls s text b n max each leads is fits done =
    let all : Bytes = version_line ++ lines_text (ls ++ text ∷ []) in
    let cut : Bytes = take (max - length all) n in
    let cap : take max b ≡ all ++ cut = ap (take max) is ∙ take_past all n max fits in
    let path : take max b ≡ (version_line ++ lines_text ls) ++ (line text ++ cut) =
    cap ∙ ap (λ (z : Bytes). z ++ cut) (sym (flat_map_more line version_line ls text))
    ∙ append_assoc (version_line ++ lines_text ls) (line text) cut in
    let (before, _) = All-split IsLineText ls (text ∷ []) each in (
      rw (cap, append_assoc) (begins (lines_text (ls ++ text ∷ []) ++ cut)),
      record {
        lines = record { rest = cut; each = (version_is_text, each); prefix = rw whole_lines cap };
        decided = rw whole_lines done;
        first = λ ks k fewer. path_first ls s (take max b) (line text ++ cut) before leads path ks k
            (omega (arith, length-append ls (text ∷ [])));
      },
    )
