-- What a line after the version line decides.
use Rattle.age_header.proofs.Common.{inr, inl, ◌≡◌, ◌≢◌, ℕ, ◌+◌, ◌-◌, ◌<◌, ◌≤◌, List, [], ◌∷◌, ◌++◌, length, length-append, take, refl, sym, ap, arith, ◌∙◌, codes, append-nil, append_cancel_left, flat_map_more, take_all, take_at, IsAtEnd, AllByRecursion, Ok, Err, Bytes, Gave, Seen, flow, BadLine, Truncated, TooLarge, IsBase64, StanzaParts, Head, line, version_line, version_size, mac_size, State, between, Step, ReadsHeader, IsLineText, lines_text, IsViable, IsHeader, same_from_push}
use Rattle.age_header.proofs.DeviceLemmas.{gave_then, of_ended, of_more}
use Rattle.age_header.proofs.VerdictPathLemmas.{leads_spell, version_text, LinesRead, Reached, line_read, path_open, path_decides, whole_lines}
use Rattle.age_header.proofs.VerdictUniqueLemmas.{found_begins}
use Rattle.age_header.proofs.HeaderLemmas.{head_path, end_text}
use Rattle.age_header.proofs.StepsLemmas.{Leads-once, Leads-split, Leads-append, prefix_path}
use Rattle.age_header.proofs.LinesLemmas.{same_lines}
use Rattle.age_header.proofs.LengthLemmas.{length-version_line}

-- an unfinished line after a path: `Truncated` at the end of the input, `TooLarge` at the limit
pub path_truncated : {a mid new : Seen} {max room count : ℕ} {s : State} {text : Bytes}
    → Reached a mid max room count s → Gave (flow mid new) text → IsLineText text
    → (length text < room) × IsAtEnd new.to_come → ReadsHeader (flow a new) max (Err Truncated)
path_truncated {max} {room} {s} {text} p took is (low, end) =
    let all : Bytes = (version_line ++ lines_text p.ls) ++ text in
    let fits : length all < max = omega (arith, length-append {A = ℕ}, length-version_line, p.size) in
    let (begun, open') = path_open p.ls s (take max all) text p.each p.leads (take_all max all (omega arith)) is in
    of_ended (gave_then p.read took) end (begun, open', fits)

pub path_too_large : {a mid new : Seen} {max room count : ℕ} {s : State} {text : Bytes}
    → Reached a mid max room count s → Gave (flow mid new) text → IsLineText text → length text ≡ room
    → ReadsHeader (flow a new) max (Err TooLarge)
path_too_large {max} {room} {s} {text} p took is full = of_more (gave_then p.read took) (λ n end.
    let all : Bytes = (version_line ++ lines_text p.ls) ++ text in
    let size : length all ≡ max = omega (arith, length-append {A = ℕ}, length-version_line, p.size) in
    let (begun, open') = path_open p.ls s (take max (all ++ n)) text p.each p.leads (take_at all n max size) is in
    (begun, open', omega (arith, length-append all n)))

-- the bytes of a path are within the limit
path_fits : {a mid : Seen} {max room count : ℕ} (p : LinesRead a mid max room count)
    → length (version_line ++ lines_text p.ls) ≤ max
path_fits p = omega (arith, length-append version_line (lines_text p.ls), length-version_line, p.size)

-- an end line where a header may end
pub record IsEndLine (s : State) (l : Bytes) : Type 0 where
  pub stanzas : List StanzaParts
  pub mac : Bytes
  pub characters : Bytes
  pub some : stanzas ≢ []
  pub at : s ≡ between stanzas
  pub size : length mac ≡ mac_size
  pub spelled : l ≡ codes "--- " ++ characters
  pub is : IsBase64 mac characters

-- a path and an end line are a header
pub path_header : {a mid new : Seen} {max room count : ℕ} {s : State} {text : Bytes}
    → Reached a mid max room count s → Gave (flow mid new) (line text) → IsLineText text → length text < room
    → (e : IsEndLine s text) → ReadsHeader (flow a new) max (Ok (record { stanzas = e.stanzas; mac = e.mac }))
path_header {max} {text} p took is low e =
    let q = line_read text p.so_far took is low in
    let all : Bytes = version_line ++ lines_text q.ls in
    let head : Head e.stanzas e.mac all = record {
      body = lines_text p.ls;
      characters = e.characters;
      some = e.some;
      stanza_text = leads_spell (between []) (between e.stanzas) p.ls [] (rw e.at at p.leads) refl;
      mac_len = e.size;
      mac_text = e.is;
      spelled = sym (flat_map_more line version_line p.ls text)
          ∙ ap (λ (z : Bytes). (version_line ++ lines_text p.ls) ++ line z) e.spelled;
    } in
    let whole = sym (append-nil all) in
    (all, q.read, found_begins all max _ (record { rest = []; head = head; prefix = whole; fits = path_fits q }))

-- after a path, a line that leads nowhere and is not an end line is a bad line
pub path_bad : {a mid new : Seen} {max room count : ℕ} {s : State} {text : Bytes}
    → Reached a mid max room count s → Gave (flow mid new) (line text) → IsLineText text → length text < room
    → (IsEndLine s text → ⊥) → ((t : State) → Step s text t → ⊥)
    → ReadsHeader (flow a new) max (Err (BadLine (count + 1)))
path_bad {max} {s} {text} p took is low no_end no_step =
    let q = line_read text p.so_far took is low in
    of_more q.read (λ n end.
    let (begun, decides) = path_decides p.ls s text _ n max q.each p.leads refl (path_fits q)
    (inr (not_viable q.each)) in
    (begun, (version_text ∷ q.ls, omega (arith, q.lines), decides, rw whole_lines (not_header q.each))))
  where
    not_header : AllByRecursion IsLineText (p.ls ++ text ∷ [])
        → IsHeader (version_line ++ lines_text (p.ls ++ text ∷ [])) → ⊥
    not_header each (stanzas, mac, head) =
        let q = head_path head in
        let lines = same_lines (p.ls ++ text ∷ []) (q.lines ++ end_text q.characters ∷ []) each q.each
        (append_cancel_left version_line _ _ q.is) in
        let (same, end) = same_from_push p.ls q.lines text (end_text q.characters) lines in
        no_end (record {
          stanzas = stanzas;
          mac = mac;
          characters = q.characters;
          some = head.some;
          at = Leads-once (between []) s (between stanzas) p.ls p.leads (rw (← same) at q.leads);
          size = head.mac_len;
          spelled = end;
          is = q.mac_text;
        })

    not_viable : AllByRecursion IsLineText (p.ls ++ text ∷ [])
        → IsViable (version_line ++ lines_text (p.ls ++ text ∷ [])) → ⊥
    not_viable each (inl e) = absurd (omega (arith, ap length e, length-append {A = ℕ}, length-version_line))
    not_viable each (inr v) =
        let q = prefix_path v in
        let lines = same_lines (p.ls ++ text ∷ []) q.lines each q.each (append_cancel_left version_line _ _ q.is) in
        let (mid, there, (next, step, _)) =
        Leads-split (between []) q.state p.ls (text ∷ []) (rw (← lines) at q.leads) in
        no_step next (rw (Leads-once (between []) mid s p.ls there p.leads) at step)

-- a path and a line that leads on are a path
pub path_more : {a mid new : Seen} {max room count : ℕ} {s t : State} (text : Bytes)
    → Reached a mid max room count s → Gave (flow mid new) (line text) → IsLineText text → length text < room
    → Step s text t → Reached a new max (room - (length text + 1)) (count + 1) t
path_more {s} {t} text p took is low step = record {
  so_far = line_read text p.so_far took is low;
  leads = Leads-append (between []) s t p.ls (text ∷ []) p.leads (t, step, refl);
}

pub path_start : {a mid : Seen} {max : ℕ} → version_size ≤ max → Gave (flow a mid) version_line
    → Reached a mid max (max - version_size) 1 (between [])
path_start wide took = record {
  so_far = record { ls = []; each = tt; read = rw append-nil took; size = omega arith; lines = refl };
  leads = refl;
}

-- a text has at most as many lines as bytes
lines_le : (ls : List Bytes) → length ls ≤ length (lines_text ls)
lines_le [] = omega arith
lines_le (l ∷ ls) = omega (arith, lines_le ls, length-append (line l) (lines_text ls), length-append l (10 ∷ []))

pub path_lines : {a mid : Seen} (max room count : ℕ) (s : State) → Reached a mid max room count s → count < max
path_lines max room count s p = omega (arith, lines_le p.ls, p.size, p.lines)
