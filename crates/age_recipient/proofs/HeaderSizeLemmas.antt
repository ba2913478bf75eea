-- The lengths of headers with one stanza, a passphrase's or a key's.
use Rattle.age_recipient.proofs.Common.{◌≡◌, ℕ, ◌+◌, ◌*◌, ◌≤◌, List, [], ◌∷◌, length, arith, ◌∙◌, Bytes, StanzaParts, keyed_stanza, keyed_wrap_key, pass_wrap_key, pass_stanza, zero_nonce, ◌/◌, length-append, flat_map, decimal, length-decimal-le, length-sealed_text, IsBase64, base64_of, Head, argument_line, body_size, header_size, stanza_size, head_value, one_text, IsBase64-only, stanza_text, header_text_is, signs_size, FileKey, keyed_type, scrypt_type}

pub b64_size : (bytes characters : Bytes) → IsBase64 bytes characters → length characters ≡ (4 * length bytes + 2) / 3
unfolding base64_of
b64_size bytes characters h = rw (IsBase64-only bytes h) (signs_size bytes)

-- a header has 70 bytes and those of its stanzas
head_size : (ss : List StanzaParts) (mac text : Bytes) → Head ss mac text
    → length text ≡ 70 + length (flat_map stanza_text ss)
head_size ss mac text h =
    let written = header_text_is ss mac (head_value ss mac text h) in
    rw (one_text ss mac text _ h written) (header_size ss mac h.mac_len)

-- every header has at least the 70 bytes of its first line and its last
pub least_header : (ss : List StanzaParts) (mac text : Bytes) → Head ss mac text → 70 ≤ length text
least_header ss mac text h = omega (arith, head_size ss mac text h)

-- the length of a header of one stanza whose body has 32 bytes, by that of its argument line
one_stanza_size : (s : StanzaParts) (mac text : Bytes) → length s.body ≡ 32 → Head (s ∷ []) mac text
    → length text ≡ length (argument_line s.args) + 114
one_stanza_size s mac text size h =
    omega (arith, head_size (s ∷ []) mac text h, length-append (stanza_text s) [], stanza_size s, body_size s.body)

two_args : (a b : Bytes) → length (argument_line (a ∷ b ∷ [])) ≡ 5 + (length a + length b)
two_args a b = simp length-append (omega arith)

three_args : (a b c : Bytes) → length (argument_line (a ∷ b ∷ c ∷ [])) ≡ 6 + (length a + length b + length c)
three_args a b c = simp length-append (omega arith)

pub pass_header : (pass salt : Bytes) {work : ℕ} (k : FileKey) {mac text : Bytes} → length salt ≡ 16 → length k.0 ≡ 16
    → work ≤ 30
    → Head (pass_stanza pass work salt k ∷ []) mac text → length text ≤ 150
unfolding pass_stanza
pass_header pass salt {work} k {mac} {text} salted keyed high h =
    let body : length (pass_stanza pass work salt k).body ≡ 32 =
    length-sealed_text (pass_wrap_key pass salt work) zero_nonce [] k.0 ∙ omega arith in
    let all = one_stanza_size (pass_stanza pass work salt k) mac text body h in
    let digits : length (decimal work) ≤ 2 = length-decimal-le 2 work (omega arith) (omega arith) (omega arith) in
    let characters : length (base64_of salt) ≡ 22 = omega (arith, signs_size salt) in
    let args : length (argument_line (pass_stanza pass work salt k).args)
    ≡ 6 + (6 + length (base64_of salt) + length (decimal work)) =
    three_args scrypt_type (base64_of salt) (decimal work) in
    omega arith

pub key_header : (key salt : Bytes) (k : FileKey) {mac text : Bytes} → length salt ≡ 16 → length k.0 ≡ 16
    → Head (keyed_stanza key salt k ∷ []) mac text → length text ≡ 156
unfolding keyed_stanza
key_header key salt k {mac} {text} salted keyed h =
    let body : length (keyed_stanza key salt k).body ≡ 32 =
    length-sealed_text (keyed_wrap_key key salt) zero_nonce [] k.0
    ∙ omega arith in
    let all = one_stanza_size (keyed_stanza key salt k) mac text body h in
    let characters : length (base64_of salt) ≡ 22 = omega (arith, signs_size salt) in
    let args : length (argument_line (keyed_stanza key salt k).args) ≡ 5 + (15 + length (base64_of salt)) =
    two_args keyed_type (base64_of salt) in
    omega arith
