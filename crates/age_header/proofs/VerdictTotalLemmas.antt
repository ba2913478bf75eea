-- Every text has a header verdict under every limit: line after line, one of the verdict's cases is met.
use Rattle.age_header.proofs.Common.{inl, inr, ◌≡◌, ◌≢◌, ◌⊎◌, ℕ, zero, suc, ◌+◌, ◌-◌, ◌<◌, ◌≤◌, List, [], ◌∷◌, ◌++◌, length, length-append, min, refl, sym, ap, arith, ◌∙◌, codes, Some, None, Ok, Err, append_cancel_left, cases_lt, cases_order, subst, AllByRecursion, Result, Bytes, Known, HeaderFault, NotAge, BadLine, Truncated, TooLarge, LineEnd, Lf, Input, Room, NoVisible, IsBase64, decoded_bytes, StanzaParts, IsVisible, line, version_size, line_size, mac_size, line_bytes, IsEnd, State, between, within, Step, IsLineText, Found, HeaderVerdict, cases_eq, rules}
use Rattle.age_header.proofs.DeviceLemmas.{gave_told, of_known, of_told}
use Rattle.age_header.proofs.ArgumentsLemmas.{Parsed, SpellsArguments, SpellsNone, no_arrow, parsed_none, parsed_more, parsed_all, parsed_nothing, stuck_space, stuck_empty}
use Rattle.age_header.proofs.Base64Lemmas.{decoded_b64, b64_decoded, IsBase64-injective}
use Rattle.age_header.proofs.VerdictPathLemmas.{version_text, Reached}
use Rattle.age_header.proofs.StepsLemmas.{no_arguments, no_base64, too_long}
use Rattle.age_header.proofs.VerdictFirstLineLemmas.{no_prefix, short_line, short_input, short_room, version_read}
use Rattle.age_header.proofs.VerdictLaterLinesLemmas.{path_start, path_more, path_header, path_bad, path_truncated, path_too_large, IsEndLine}
use Rattle.age_header.proofs.VerdictUniqueLemmas.{found_again, one_verdict}

-- ---- what can be decided

nil_or_some : (x : Bytes) → (x ≡ []) ⊎ (x ≢ [])
nil_or_some [] = inl refl
nil_or_some (c ∷ x) = inr (λ e. cc)

prefix_of : (f v : Bytes) → ((x : Bytes) × (v ≡ f ++ x)) ⊎ ((x : Bytes) → v ≢ f ++ x)
prefix_of [] v = inl (v, refl)
prefix_of (c ∷ f) [] = inr (λ x e. cc)
prefix_of (c ∷ f) (d ∷ v) = grind (arith, cases_eq d c, prefix_of f v)

visible_or_not : (c : ℕ) → IsVisible c ⊎ (IsVisible c → ⊥)
visible_or_not c = search (rules, cases_lt)

base64_or_none : (l : Bytes) → ((b : Bytes) × IsBase64 b l) ⊎ ((b : Bytes) → IsBase64 b l → ⊥)
base64_or_none l = here (decoded_bytes l) refl
  where
    here : (o : Known) → decoded_bytes l ≡ o → ((b : Bytes) × IsBase64 b l) ⊎ ((b : Bytes) → IsBase64 b l → ⊥)
    here None e = inr (λ b is. let some = b64_decoded l b is in cc)
    here (Some b) e = inl (b, decoded_b64 l b e)

-- ---- arguments

record VisiblePrefix (t : Bytes) : Type 0 where
  seen : Bytes
  rest : Bytes
  is : t ≡ seen ++ rest
  visible : AllByRecursion IsVisible seen
  ends : NoVisible rest

visible_prefix : (t : Bytes) → VisiblePrefix t
visible_prefix [] = record { seen = []; rest = []; is = refl; visible = tt; ends = tt }
visible_prefix (c ∷ t) = elim (visible_or_not c) [
  | inl v ↦
      let f = visible_prefix t in
      record { seen = c ∷ f.seen; rest = f.rest; is = ap (c ∷◌) f.is; visible = (v, f.visible); ends = f.ends }
  | inr n ↦ record { seen = []; rest = c ∷ t; is = refl; visible = tt; ends = n }
]

parsed : (n : ℕ) (l : Bytes) (az : List Bytes) (rest : Bytes) → length rest ≤ n → Parsed l az rest
    → SpellsArguments l ⊎ SpellsNone l
parsed n l [] [] low p = inr (parsed_nothing l p)
parsed n l (a ∷ az) [] low p =
    let (are, is) = parsed_all l (a ∷ az) p (λ e. cc) in inl (a ∷ az, are, is)
parsed zero l az (c ∷ rest) low p = absurd (omega arith)
parsed (suc n) l az (c ∷ rest) low p = elim (cases_eq c 32) [
  | inr other ↦ inr (stuck_space l az (c ∷ rest) p (λ e. cc) (λ x e. other cc))
  | inl space ↦
      let f = visible_prefix rest in
      let is : c ∷ rest ≡ 32 ∷ rest = cc in
      elim (nil_or_some f.seen) [
        | inl nil ↦
            let same : f.rest ≡ rest = sym (rw nil at f.is) in
            inr (stuck_empty l az (c ∷ rest) rest p is (rw same at f.ends))
        | inr some ↦ parsed n l (az ++ f.seen ∷ []) f.rest (omega (arith, ap length f.is, length-append f.seen f.rest))
            (parsed_more l az (c ∷ rest) rest f.seen f.rest p is f.is some f.visible f.ends)
      ]
]

arguments_of : (l : Bytes) → SpellsArguments l ⊎ SpellsNone l
arguments_of l = elim (prefix_of (codes "->") l) [
  | inl (rest, is) ↦ parsed (length rest) l [] rest (omega arith) (parsed_none l rest is)
  | inr none ↦ inr (no_arrow l none)
]

-- ---- one line

step_of : (s : State) (l : Bytes) → ((t : State) × Step s l t) ⊎ ((t : State) → Step s l t → ⊥)
step_of (between ss) l = elim (arguments_of l) [
  | inl (args, are, is) ↦ inl (within ss args [], (refl, refl, are, is))
  | inr none ↦ inr (λ t. no_arguments ss l t none)
]
step_of (within ss args body) l = elim (base64_or_none l) [
  | inr none ↦ inr (λ t. no_base64 ss args body l t none)
  | inl (more, is) ↦ elim (cases_order (length l) line_size) [
    | inl full ↦ inl (within ss args (body ++ more), (more, refl, refl, full, is, refl))
    | inr (inl short) ↦ inl (between (ss ++ record { args = args; body = body ++ more } ∷ []), (more, short, is, refl))
    | inr (inr over) ↦ inr (λ t. too_long ss args body l t over)
  ]
]

end_of : (s : State) (l : Bytes) → IsEndLine s l ⊎ (IsEndLine s l → ⊥)
end_of (within ss args body) l = inr (λ e. let at = e.at in cc)
end_of (between []) l = inr (λ e. let at = e.at in e.some cc)
end_of (between (s ∷ ss)) l = elim (prefix_of (codes "--- ") l) [
  | inr none ↦ inr (λ e. none e.characters e.spelled)
  | inl (characters, spelled) ↦
      let same : (e : IsEndLine (between (s ∷ ss)) l) → IsBase64 e.mac characters =
      λ e. rw (append_cancel_left (codes "--- ") e.characters characters (sym e.spelled ∙ spelled)) at e.is in
      elim (base64_or_none characters) [
        | inr none ↦ inr (λ e. none e.mac (same e))
        | inl (mac, is) ↦ elim (cases_eq (length mac) mac_size) [
          | inl size ↦ inl (record {
            stanzas = s ∷ ss;
            mac = mac;
            characters = characters;
            some = λ e. cc;
            at = refl;
            size = size;
            spelled = spelled;
            is = is;
          })
          | inr other ↦ inr (λ e. other (rw (IsBase64-injective e.mac mac characters (same e) is) at e.size))
        ]
      ]
]

-- ---- line after line

-- the first line of b, of at most room bytes
record FirstLine (room : ℕ) (b : Bytes) : Type 0 where
  text : Bytes
  end : LineEnd
  rest : Bytes
  is : IsLineText text
  took : b ≡ line_bytes text end ++ rest
  ends : IsEnd end (length text) room (Some rest)

longer : (room c : ℕ) (b text : Bytes) (end : LineEnd) (rest : Bytes) → c ≢ 10 → IsLineText text
    → b ≡ line_bytes text end ++ rest → IsEnd end (length text) room (Some rest) → FirstLine (suc room) (c ∷ b)
longer room c b text Lf rest other is took low =
    record { text = c ∷ text; end = Lf; rest = rest; is = (other, is); took = cc; ends = omega arith }
longer room c b text Input rest other is took (low, at_end) =
    record { text = c ∷ text; end = Input; rest = rest; is = (other, is); took = cc; ends = (omega arith, at_end) }
longer room c b text Room rest other is took full =
    record { text = c ∷ text; end = Room; rest = rest; is = (other, is); took = cc; ends = omega arith }

first_line : (room : ℕ) (b : Bytes) → FirstLine room b
first_line zero b = record { text = []; end = Room; rest = b; is = tt; took = refl; ends = refl }
first_line (suc room) [] =
    record { text = []; end = Input; rest = []; is = tt; took = refl; ends = (omega arith, refl) }
first_line (suc room) (c ∷ b) = elim (cases_eq c 10) [
  | inl lf ↦ record { text = []; end = Lf; rest = b; is = tt; took = cc; ends = omega arith }
  | inr other ↦ let l = first_line room b in longer room c b l.text l.end l.rest other l.is l.took l.ends
]

abbrev HasVerdict : Bytes → ℕ → Type 0
HasVerdict b max = (r : Result Found HeaderFault) × HeaderVerdict b max r

-- the verdict of a path, the first line of what follows it, and the lines after that
path_verdict : (n : ℕ) (b m : Bytes) (max room count : ℕ) (s : State) → room ≤ n
    → Reached (of_told b) (of_told m) max room count s → (text : Bytes) (end : LineEnd) (rest : Bytes)
    → IsLineText text → m ≡ line_bytes text end ++ rest → IsEnd end (length text) room (Some rest) → HasVerdict b max
path_verdict n b m max room count s low p text Input rest is took ends =
    (Err Truncated, of_known _ _ b refl (path_truncated p (gave_told m text rest took) is ends))
path_verdict n b m max room count s low p text Room rest is took ends =
    (Err TooLarge, of_known _ _ b refl (path_too_large p (gave_told m text rest took) is ends))
path_verdict zero b m max room count s low p text Lf rest is took ends = absurd (omega arith)
path_verdict (suc n) b m max room count s low p text Lf rest is took ends =
    let line_told = gave_told m (line text) rest took in
    elim (end_of s text) [
      | inl e ↦
          let (found, took, verdict) = path_header p line_told is ends e in
          let x : Found = record { stanzas = e.stanzas; mac = e.mac; text = found } in
          (Ok x, subst (λ c. HeaderVerdict c max (Ok x)) (sym took.consumes) (found_again found max x verdict rest))
      | inr no_end ↦ elim (step_of s text) [
        | inl (t, step) ↦
            let l = first_line (room - (length text + 1)) rest in
            path_verdict n b rest max (room - (length text + 1)) (count + 1) t (omega arith)
            (path_more text p line_told is ends step) l.text l.end l.rest l.is l.took l.ends
        | inr none ↦ (Err (BadLine (count + 1)), of_known _ _ b refl (path_bad p line_told is ends no_end none))
      ]
    ]

-- the verdict on a text whose first line begins the version line
begun_verdict : (b : Bytes) (max : ℕ) (text : Bytes) (end : LineEnd) (rest behind : Bytes) → IsLineText text
    → b ≡ line_bytes text end ++ rest → IsEnd end (length text) (min max version_size) (Some rest)
    → version_text ≡ text ++ behind → HasVerdict b max
begun_verdict b max text Input rest behind is took ends prefix =
    (Err Truncated, of_known _ _ b refl (short_input behind (gave_told b text rest took) is ends prefix))
begun_verdict b max text Room rest behind is took ends prefix =
    (Err TooLarge, of_known _ _ b refl (short_room behind (gave_told b text rest took) is ends prefix))
begun_verdict b max text Lf rest behind is took ends prefix =
    let line_told = gave_told b (line text) rest took in
    elim (nil_or_some behind) [
      | inl none ↦
          let (wide, version) = version_read text line_told ends prefix none in
          let l = first_line (max - version_size) rest in
          path_verdict max b rest max (max - version_size) 1 (between []) (omega arith) (path_start wide version)
          l.text l.end l.rest l.is l.took l.ends
      | inr some ↦ (Err NotAge, of_known _ _ b refl (short_line text max line_told is ends prefix some))
    ]

pub some_verdict : (b : Bytes) (max : ℕ) → HasVerdict b max
some_verdict b max =
    let l = first_line (min max version_size) b in
    elim (prefix_of l.text version_text) [
      | inl (behind, prefix) ↦ begun_verdict b max l.text l.end l.rest behind l.is l.took l.ends prefix
      | inr none ↦ (
        Err NotAge,
        of_known _ _ b refl
            (no_prefix l.text l.end max (gave_told b (line_bytes l.text l.end) l.rest l.took) l.is l.ends none),
      )
    ]

pub ruleset verdicts = (some_verdict, one_verdict)
