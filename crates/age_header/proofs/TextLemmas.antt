-- The text that a writer writes is the text of a header.
use Rattle.age_header.proofs.Common.{◌≡◌, ℕ, zero, suc, ◌+◌, ◌*◌, ◌/◌, ◌<◌, ◌≤◌, List, [], ◌∷◌, ◌++◌, length, length-take, length-drop, get_or, take, drop, take-append-drop, map, refl, sym, ap, arith, append_assoc, ◌∙◌, codes, flat_map, take_at, concat, AllByRecursion, encoded_size_of, GeneralPurpose, Bytes, IsBase64, alphabet, base64_of, StanzaParts, Head, IsStanza, AreStanzas, IsFullLine, argument_line, line, line_size, bytes_of_a_line, IsWhole, IsHeaderValue, body_lines, body_text, stanza_text, signed_text, mac_end, at_drop_more, flat_map-map, front_bytes, get_or-drop, length-encode_symbols, IsBytes, IsEncodedOver, IsPlain, common_steps, rules}
use Rattle.age_header.proofs.Base64Lemmas.{IsBase64-encode, encode_of_unpadded, IsBase64-append}

-- what the engine wrote into a buffer is the base64 of the bytes
pub encoded : {e : GeneralPurpose} (m old : Bytes) {new : Bytes} {len : ℕ} → IsPlain e → IsEncodedOver e m old new
    → len ≡ encoded_size_of e (length m)
    → take len new ≡ base64_of m
unfolding base64_of
encoded {e} m old {len} p over is = grind (arith, encode_of_unpadded, length-encode_symbols, take_at)

pub encoded_size_plain : (e : GeneralPurpose) (n : ℕ) → IsPlain e → encoded_size_of e n ≡ (4 * n + 2) / 3
encoded_size_plain e n p = rw p.unpadded refl

-- one full line more
pub body_step : (b : Bytes) {piece after : Bytes} → piece ≡ take bytes_of_a_line b → after ≡ drop bytes_of_a_line b
    → bytes_of_a_line ≤ length b → body_text b ≡ base64_of piece ++ (10 ∷ body_text after)
unfolding body_text body_lines
body_step b p a low = grind (arith, length-drop bytes_of_a_line b, append_assoc)

pub body_end : (b : Bytes) → length b < bytes_of_a_line → body_text b ≡ base64_of b ++ 10 ∷ []
unfolding body_text body_lines
body_end b h = search (rules)

-- one element more of a list of texts
pub flat_step : {X : Type 0} (f : X → Bytes) (end : Bytes) (xs : List X) (i : ℕ) (x : X) → i < length xs
    → x ≡ get_or xs i x
    → flat_map f (drop i xs) ++ end ≡ f x ++ (flat_map f (drop (i + 1) xs) ++ end)
flat_step f end xs i x low is = grind (arith, common_steps, at_drop_more, append_assoc)

-- one stanza more of a list of stanzas, before the text's end
pub stanza_step : (ss : List StanzaParts) (i : ℕ) (s : StanzaParts) → i < length ss → s ≡ get_or ss i s
    → flat_map stanza_text (drop i ss) ++ codes "---"
    ≡ argument_line s.args ++ (body_text s.body ++ (flat_map stanza_text (drop (i + 1) ss) ++ codes "---"))
unfolding stanza_text
stanza_step ss i s low is = grind (arith, common_steps, flat_step, append_assoc)

pub args_step : {X : Type 0} (f : X → Bytes) (xs : List X) (i : ℕ) {x : X} → i < length xs → x ≡ get_or xs i x
    → flat_map (λ a. 32 ∷ a) (map f (drop i xs)) ++ 10 ∷ []
    ≡ (32 ∷ []) ++ (f x ++ (flat_map (λ a. 32 ∷ a) (map f (drop (i + 1) xs)) ++ 10 ∷ []))
args_step f xs i {x} low is =
    simp flat_map-map (flat_step (λ x. 32 ∷ f x) (10 ∷ []) xs i x low is)

pub bytes_take : (n : ℕ) (b : Bytes) → IsBytes b → IsBytes (take n b)
bytes_take n b h = front_bytes (take n b) (drop n b) (rw take-append-drop h)

pub bytes_drop : (n : ℕ) (b : Bytes) → IsBytes b → IsBytes (drop n b)
bytes_drop n b h i = rw (get_or-drop n b i 0) (h (n + i))

pub characters_are : (b : Bytes) → IsBytes b → IsBase64 b (base64_of b)
unfolding base64_of
characters_are b h = IsBase64-encode b h

pub signs_size : (b : Bytes) → length (base64_of b) ≡ (4 * length b + 2) / 3
unfolding base64_of
signs_size b = length-encode_symbols alphabet b

record Cut (n : ℕ) (b : Bytes) : Type 0 where
  full : List Bytes
  last : Bytes
  each : AllByRecursion IsFullLine full
  low : length last < line_size
  text : IsBase64 b (concat full ++ last)
  spelled : body_lines n b ≡ flat_map line full ++ line last

cut : (n : ℕ) (b : Bytes) → IsBytes b → bytes_of_a_line * n ≤ length b
    → length b < bytes_of_a_line * n + bytes_of_a_line → Cut n b
unfolding body_lines
cut zero b h low high = record {
  full = [];
  last = base64_of b;
  each = tt;
  low = omega (arith, signs_size b);
  text = characters_are b h;
  spelled = refl;
}
cut (suc n) b h low high =
    let front : Bytes = take bytes_of_a_line b in
    let back : Bytes = drop bytes_of_a_line b in
    let size = length-drop bytes_of_a_line b in
    let full : length (base64_of front) ≡ line_size = omega (arith, signs_size front, length-take bytes_of_a_line b) in
    let rest = cut n back (bytes_drop bytes_of_a_line b h) (omega arith) (omega arith) in
    let text = IsBase64-append 16 front (base64_of front) back (concat rest.full ++ rest.last) full
    (characters_are front (bytes_take bytes_of_a_line b h)) rest.text in
    record {
      full = base64_of front ∷ rest.full;
      last = rest.last;
      each = (full, rest.each);
      low = rest.low;
      text = rw (append_assoc (base64_of front)) (rw take-append-drop at text);
      spelled = ap (line (base64_of front) ++◌) rest.spelled
          ∙ sym (append_assoc (line (base64_of front)) (flat_map line rest.full) (line rest.last));
    }

pub stanza_text_is : (s : StanzaParts) → IsWhole s → IsStanza s (stanza_text s)
unfolding stanza_text body_text
stanza_text_is s h =
    let c = cut (length s.body / bytes_of_a_line) s.body h.1 (omega arith) (omega arith) in
    grind (arith, append_assoc)

stanzas_text_is : (ss : List StanzaParts) → AllByRecursion IsWhole ss → AreStanzas ss (flat_map stanza_text ss)
stanzas_text_is [] h = refl
stanzas_text_is (s ∷ ss) h = search (rules, stanza_text_is, stanzas_text_is ss h.1)

pub header_text_is : (ss : List StanzaParts) (mac : Bytes) → IsHeaderValue ss mac
    → Head ss mac (signed_text ss ++ mac_end mac)
unfolding signed_text mac_end
header_text_is ss mac h = search (rules, stanzas_text_is, characters_are, append_assoc)
