-- Stanzas and a MAC have one text, which has one reading and is not a prefix of another header.
use Rattle.age_header.proofs.Common.{◌≡◌, ◌<◌, List, [], ◌∷◌, ◌++◌, length, length-append, take, drop, sym, ap, arith, ◌∙◌, append_assoc, flat_map, codes, inl, inr, ◌⊎◌, ℕ, refl, ◌-◌, take_at, append-nil, append_cancel_left, flat_map_more, AllByRecursion, concat, cases_lt, Bytes, StanzaParts, Head, IsStanza, AreStanzas, IsFullLine, argument_line, line, version_line, line_size, IsBase64, State, between, within, Step, Leads, IsLineText, lines_text, IsWhole, IsHeaderValue, signed_text, mac_end, drop_at, rules}
use Rattle.age_header.proofs.Base64Lemmas.{IsBase64-only, IsBase64-injective, IsBase64-bytes}
use Rattle.age_header.proofs.LinesLemmas.{All-append, lines_prefix, no_line, characters_text}
use Rattle.age_header.proofs.StepsLemmas.{Leads-once, Leads-split, stanzas_lead}
use Rattle.age_header.proofs.LengthLemmas.{mac_end_size}
use Rattle.age_header.proofs.TextLemmas.{header_text_is}

same_cut : (fs gs : List Bytes) (x y : Bytes) → AllByRecursion IsFullLine fs → AllByRecursion IsFullLine gs
    → length x < line_size → length y < line_size
    → concat fs ++ x ≡ concat gs ++ y → flat_map line fs ++ line x ≡ flat_map line gs ++ line y
same_cut [] [] x y hf hg lx ly e = ap line e
same_cut [] (g ∷ gs) x y hf hg lx ly e = absurd (omega (arith, ap length e, length-append {A = ℕ}, hg.0))
same_cut (f ∷ fs) [] x y hf hg lx ly e = absurd (omega (arith, ap length e, length-append {A = ℕ}, hf.0))
same_cut (f ∷ fs) (g ∷ gs) x y hf hg lx ly e =
    let r : f ++ (concat fs ++ x) ≡ g ++ (concat gs ++ y) = simp append_assoc at e in
    let head : f ≡ g = rw (take_at f _ line_size hf.0, take_at g _ line_size hg.0) at (ap (take line_size) r) in
    let tail = rw (drop_at f _ line_size hf.0, drop_at g _ line_size hg.0) at (ap (drop line_size) r) in
    let rest = same_cut fs gs x y hf.1 hg.1 lx ly tail in
    rw (append_assoc (line f), append_assoc (line g), head, rest) refl

same_stanza : (s : StanzaParts) (x y : Bytes) → IsStanza s x → IsStanza s y → x ≡ y
same_stanza s x y h k =
    let characters = IsBase64-only s.body h.body ∙ sym (IsBase64-only s.body k.body) in
    let lines = same_cut h.full k.full h.last k.last h.cut.0 k.cut.0 h.cut.1 k.cut.1 characters in
    rw (h.spelled, k.spelled, append_assoc (argument_line s.args), append_assoc (argument_line s.args), lines) refl

same_stanzas : (ss : List StanzaParts) (x y : Bytes) → AreStanzas ss x → AreStanzas ss y → x ≡ y
same_stanzas [] x y h k = h ∙ sym k
same_stanzas (s ∷ ss) x y (front, back, h, hs, is) (other, others, k, ks, also) = grind (arith, same_stanza s front other h k, same_stanzas ss back others hs ks)

pub one_text : (ss : List StanzaParts) (m h k : Bytes) → Head ss m h → Head ss m k → h ≡ k
one_text ss m h k a b = search (rules, same_stanzas, IsBase64-only)

abbrev pub end_text : Bytes → Bytes
end_text characters = codes "--- " ++ characters

pub record HeadPath (ss : List StanzaParts) (mac h : Bytes) : Type 0 where
  pub lines : List Bytes
  pub characters : Bytes
  pub is : h ≡ version_line ++ lines_text (lines ++ end_text characters ∷ [])
  pub each : AllByRecursion IsLineText (lines ++ end_text characters ∷ [])
  pub leads : Leads (between []) lines (between ss)
  pub mac_text : IsBase64 mac characters

end_is_text : (mac characters : Bytes) → IsBase64 mac characters → IsLineText (end_text characters)
end_is_text mac characters h = search (rules, All-append, characters_text)

pub head_path : {ss : List StanzaParts} {mac h : Bytes} → Head ss mac h → HeadPath ss mac h
head_path {ss} {mac} k =
    let (lines, is, each, leads) = stanzas_lead [] ss k.body k.stanza_text in
    record {
      lines = lines;
      characters = k.characters;
      is = k.spelled ∙ ap (λ (z : Bytes). version_line ++ z ++ line (end_text k.characters)) is
          ∙ flat_map_more line version_line lines (end_text k.characters);
      each = All-append IsLineText lines (end_text k.characters ∷ []) each
          (end_is_text mac k.characters k.mac_text, tt);
      leads = leads;
      mac_text = k.mac_text;
    }

-- between stanzas, an end line leads nowhere
no_step : (ss : List StanzaParts) (characters : Bytes) (s : State) → Step (between ss) (end_text characters) s → ⊥
no_step ss characters (between ts) h = h
no_step ss characters (within ts args body) h = search (rules)

-- no path continues after an end line
pub past_end : (ls more : List Bytes) (ss : List StanzaParts) (p : Bytes) (t : State)
    → Leads (between []) ls (between ss) → Leads (between []) (ls ++ end_text p ∷ more) t → ⊥
past_end ls more ss p t h k = search (rules, Leads-split, no_step, Leads-once)

-- if ls and then e begin a list, e is its last element or stands before the last
last_one : (ms : List Bytes) (f : Bytes) (ls : List Bytes) (e : Bytes) (more : List Bytes)
    → ms ++ f ∷ [] ≡ (ls ++ e ∷ []) ++ more
    → ((more ≡ []) × (ms ≡ ls) × (f ≡ e)) ⊎ ((rest : List Bytes) × (ms ≡ ls ++ e ∷ rest))
last_one [] f [] e more h = inl (cc, refl, cc)
last_one [] f (l ∷ ls) e more h = grind (arith, length-append (ls ++ e ∷ []) more, length-append ls (e ∷ []))
last_one (m ∷ ms) f [] e more h = let head : m ≡ e = cc in inr (ms, cc)
last_one (m ∷ ms) f (l ∷ ls) e more h =
    let head : m ≡ l = cc in
    let tail : ms ++ f ∷ [] ≡ (ls ++ e ∷ []) ++ more = cc in
    elim (last_one ms f ls e more tail) [
      | inl w ↦ let same : ms ≡ ls = w.1 in inl (w.0, cc, w.2)
      | inr w ↦ let same : ms ≡ ls ++ e ∷ w.0 = w.1 in inr (w.0, cc)
    ]

-- a header that begins with a header is that header
pub reading : (ss ts : List StanzaParts) (m n h x : Bytes) → Head ss m h → Head ts n (h ++ x)
    → (x ≡ []) × (ss ≡ ts) × (m ≡ n)
reading ss ts m n h x a b =
    let p = head_path a in
    let q = head_path b in
    let ls : List Bytes = p.lines ++ end_text p.characters ∷ [] in
    let ms : List Bytes = q.lines ++ end_text q.characters ∷ [] in
    let first : version_line ++ (lines_text ls ++ x) ≡ version_line ++ lines_text ms =
    sym (ap (λ (z : Bytes). z ++ x) p.is ∙ append_assoc version_line (lines_text ls) x) ∙ q.is in
    let same : lines_text ls ++ x ≡ lines_text ms ++ [] = rw append-nil (append_cancel_left version_line _ _ first) in
    elim (cases_lt (length ms) (length ls)) [
      | inl fewer ↦
          let (more, longer, left) = lines_prefix ms ls [] x q.each p.each (sym same) (omega arith) in
          let none = no_line more x [] tt left in
          absurd (omega (arith, ap length (rw (none, append-nil) at longer)))
      | inr enough ↦
          let (more, longer, left) = lines_prefix ls ms x [] p.each q.each same enough in
          elim (last_one q.lines (end_text q.characters) p.lines (end_text p.characters) more longer) [
            | inl (none, lines, end) ↦
                let lead = rw lines at q.leads in
                let states = Leads-once (between []) (between ss) (between ts) p.lines p.leads lead in
                let characters = append_cancel_left (codes "--- ") q.characters p.characters end in (
                  rw none at left,
                  cc states,
                  IsBase64-injective m n p.characters p.mac_text (rw characters at q.mac_text),
                )
            | inr (rest, lines) ↦
                absurd (past_end p.lines rest ss p.characters (between ts) p.leads (rw lines at q.leads))
          ]
    ]

-- a text has one reading
pub one_parts : (ss ts : List StanzaParts) (m n h : Bytes) → Head ss m h → Head ts n h → (ss ≡ ts) × (m ≡ n)
one_parts ss ts m n h a b = let (_, stanzas, mac) = reading ss ts m n h [] a (rw append-nil b) in (stanzas, mac)

whole_stanzas : (ss : List StanzaParts) (text : Bytes) → AreStanzas ss text → AllByRecursion IsWhole ss
whole_stanzas [] text h = tt
whole_stanzas (s ∷ ss) text h = ((h.2.arguments, search (IsBase64-bytes, h.2.body)), whole_stanzas ss h.1 h.3)

-- the stanzas and the MAC of a header are a value that has a text
pub head_value : (ss : List StanzaParts) (mac h : Bytes) → Head ss mac h → IsHeaderValue ss mac
head_value ss mac h k = search (rules, whole_stanzas, IsBase64-bytes)

-- `signed_text` is the header without its last 45 bytes
pub signed_prefix : (ss : List StanzaParts) (mac h : Bytes) → Head ss mac h → signed_text ss ≡ take (length h - 45) h
signed_prefix ss mac h k =
    let is = one_text ss mac h (signed_text ss ++ mac_end mac) k (header_text_is ss mac (head_value ss mac h k)) in
    let end = mac_end_size mac k.mac_len in
    let size = length-append (signed_text ss) (mac_end mac) in
    rw is (sym (take_at (signed_text ss) (mac_end mac) _ (omega arith)))
