-- A header that is made of a text of stanzas, and a new file that begins with it.
use Rattle.agefile.proofs.Common.{◌≡◌, ◌≢◌, ℕ, ◌+◌, ◌-◌, ◌<◌, ◌≤◌, Bool, true, false, List, [], ◌∷◌, ◌++◌, length, take, replicate, codes, cond, sym, ◌∙◌, ap, refl, arith, inl, inr, length-append, append_assoc, Vec, Result, Ok, Err, String, IfOk, slice_index, Global, string_bytes, cases_lt, le-ltb, lt-ltb, append-nil, append_cancel_left, nil_from_length, take_at, Bytes, AreStanzas, Head, HeaderParts, StanzaParts, line, IsStanza, header_mac, length-line, length-version_line, begins_found, characters_are, FileKey, Fault, BadLine, MixedPassphrase, is_mixed, AgeFile, finding, header_fault, err_err, FindsMac, HasStanzas, MakesHeader, ReadsAs, heading, gathering_of, in_text, lines_in, probe, unless_mixed, HeaderOf, file_len, limits, sealed_len, b64_size, key_header, pass_header, reading, payload, IsNewFile}
use Rattle.age_header.specs.Base64.{IsBase64, base64_of}
use Rattle.age_header.specs.Header.{version_line}
use Rattle.age_file.specs.NewFile.{IsHeading}
use Rattle.agefile.proofs.UnlockLemmas.{Fronts, ok_ok}
use Rattle.age_recipient.specs.KeyedStanza.{keyed_stanza}
use Rattle.age_recipient.specs.PassphraseStanza.{pass_stanza}
use Rattle.agefile.proofs.SizeLemmas.{payload_size}

-- ---- the MAC

pub mac_none : (text : Bytes) (k : FileKey) (fault : Fault) {other : Fault} → other ≡ in_text fault
    → HeaderOf (probe text) (Err fault) → FindsMac text k (Err other)
mac_none text k fault is (inl memory) = inl (rw (is, memory) refl)
mac_none text k fault is (inr (reason, h, same)) =
    inr (Err (in_text (header_fault reason)), (Err reason, h, refl), rw (is, same) refl)

pub mac_early : (text rest front : Bytes) (h : HeaderParts) (k : FileKey) {fault : Fault} → Fronts (probe text) rest h
    → 0 < length rest → front ≡ take (length (probe text) - length rest) (probe text)
    → fault ≡ BadLine (lines_in front - 1) → FindsMac text k (Err fault)
mac_early text rest front h k f some is count =
    let len = length-append f.text rest in
    let same : front ≡ f.text = rw f.begins at is ∙ take_at f.text rest _ (omega (arith, len)) in
    let early = lt-ltb (length f.text) (length (probe text)) (omega (arith, ap length f.begins, len, some)) in
    inr (Err (BadLine (lines_in f.text - 1)), (Ok (finding f.text h), f.verdict, rw early refl), rw (count, same) refl)

-- if the whole probe is a header, its stanzas are the text's, unless a `scrypt` stanza is not alone
pub whole_text : (text rest : Bytes) (h : HeaderParts) (s : Result (List StanzaParts) Fault)
    → Fronts (probe text) rest h → length rest ≡ 0 → s ≡ unless_mixed (Ok h.stanzas) → ReadsAs text s
whole_text text rest h s f none is =
    let size : length (probe text) ≡ length f.text + length rest = ap length f.begins ∙ length-append f.text rest in
    let whole = le-ltb (length f.text) (length (probe text)) (omega (arith, size, none)) in
    (Ok (finding f.text h), f.verdict, rw (is, whole) refl)

-- ---- the header

pub header_none : {text : Bytes} {k : FileKey} (fault : Fault) → text ≢ [] → FindsMac text k (Err fault)
    → MakesHeader text k (Err fault)
header_none a b c = grind (arith, err_err)

-- what is known of a text whose probe was read to its end
pub record Reads (text : Bytes) (ss : List StanzaParts) : Type 0 where
  pub alone : is_mixed ss ≡ false
  pub mac : Bytes
  pub head : Head ss mac (probe text)
  pub fits : length (probe text) ≤ limits.max_header

unmixed : (b : Bool) (xs ss : List StanzaParts)
    → ◌≡◌ {A = Result (List StanzaParts) Fault} (cond b (Err MixedPassphrase) (Ok xs)) (Ok ss) → (b ≡ false) × (xs ≡ ss)
unmixed true xs ss e = absurd (cc)
unmixed false xs ss e = (refl, ok_ok e)

reads : (text : Bytes) (ss : List StanzaParts) → ReadsAs text (Ok ss) → Reads text ss
reads text ss (Err reason, h, eq) = absurd (cc)
reads text ss (Ok found, h, eq) = elim (cases_lt (length found.text) (length (probe text))) [
  | inl lt ↦ absurd (cc (rw (lt-ltb (length found.text) (length (probe text)) lt) at eq))
  | inr ge ↦
      let w = begins_found (probe text) limits.max_header found h in
      let size = ap length w.prefix ∙ length-append found.text w.rest in
      let none : w.rest ≡ [] = nil_from_length w.rest (omega (arith, size, ge)) in
      let whole : probe text ≡ found.text = rw (none, append-nil) at w.prefix in
      let all = rw (le-ltb (length found.text) (length (probe text)) ge) at eq in
      let (alone, same) = unmixed (is_mixed found.stanzas) found.stanzas ss (sym all) in
      record { alone = rw same at alone; mac = found.mac; head = rw (← whole, same) at w.head; fits = rw whole w.fits }
]

pub read_of : (text : Bytes) (ss : List StanzaParts) → HasStanzas text (Ok ss) → Reads text ss
read_of text ss (inl (none, is)) = absurd (cc)
read_of text ss (inr (some, h)) = reads text ss h

framed_size : (text characters : Bytes) → length characters ≡ 43 → length (heading text characters) ≡ length text + 70
framed_size text characters len = grind (arith, length-version_line, length-append, length-line)

-- a text whose probe is a header is the body of this header
pub same_body : (text mac : Bytes) (ss : List StanzaParts) (h : Head ss mac (probe text)) → text ≡ h.body
same_body text mac ss h =
    let mine : Bytes = line (codes "--- " ++ replicate 43 65) in
    let theirs : Bytes = line (codes "--- " ++ h.characters) in
    let sized : length h.characters ≡ 43 = omega (arith, b64_size mac h.characters h.mac_text, h.mac_len) in
    let long : length mine ≡ length theirs =
    omega (arith, sized, length-line (codes "--- " ++ h.characters), length-append (codes "--- ") h.characters) in
    append_cancel_left version_line text h.body (same_front mine theirs h.spelled long)
  where
    same_front : {a : Bytes} (b : Bytes) {c : Bytes} (d : Bytes) → a ++ b ≡ c ++ d → length b ≡ length d → a ≡ c
    same_front {a} b {c} d e len =
        let size : length c ≡ length a =
        omega (arith, ap length e, length-append a b, length-append c d, len) in
        sym (take_at a b (length a) refl) ∙ ap (take (length a)) e ∙ take_at c d (length a) size

-- if a text was read, it makes the header with the right MAC in place of the probe's
heading_of : (text mac characters : Bytes) (k : FileKey) (ss : List StanzaParts) → Reads text ss
    → mac ≡ header_mac k.0 ss → IsBase64 mac characters → length mac ≡ 32
    → IsHeading limits k (gathering_of ss) ss (heading text characters)
heading_of text mac characters k ss r is bytes len =
    let sized : length characters ≡ 43 = omega (arith, b64_size mac characters bytes, len) in
    let fits : length (probe text) ≤ limits.max_header = r.fits in
    record {
      gives = refl;
      unmixed = r.alone;
      head = rw (← is) (record {
        body = text;
        characters = characters;
        some = r.head.some;
        stanza_text = rw (same_body text r.mac ss r.head) r.head.stanza_text;
        mac_len = len;
        mac_text = bytes;
        spelled = refl;
      });
      fits = omega (arith, framed_size text characters sized, framed_size text (replicate 43 65) refl, fits);
    }

pub header_made : {text : Bytes} (mac characters : Bytes) {k : FileKey} {made : Vec ℕ Global} → text ≢ []
    → FindsMac text k (Ok mac) → IsBase64 mac characters → length mac ≡ 32
    → made.items ≡ heading text characters → MakesHeader text k (Ok made)
header_made mac characters some (inl memory) bytes len spelled = absurd (cc)
header_made mac characters some (inr (Err f, h, is)) bytes len spelled = absurd (cc)
header_made {text} mac characters {k} some (inr (Ok ss, h, is)) bytes len spelled = inr (
  Ok ss,
  inr (some, h),
  rw spelled (heading_of text mac characters k ss (reads text ss h) (ok_ok is) bytes len),
)

pub characters_known : {E : Type 0} (mac : Bytes) (r : Result (String Global) E) → ((i : ℕ) → slice_index mac i < 256)
    → IfOk r (λ t. string_bytes t ≡ base64_of mac)
    → IfOk r (λ t. IsBase64 mac (string_bytes t))
characters_known mac (Ok t) bytes is = rw is (characters_are mac bytes)
characters_known mac (Err e) bytes is = tt

pub framed_text : (first text characters : Bytes) {all : Bytes} → first ≡ codes "age-encryption.org/v1" ++ 10 ∷ []
    → all ≡ (((first ++ text) ++ codes "--- ") ++ characters) ++ 10 ∷ [] → all ≡ heading text characters
unfolding version_line
framed_text first text characters same is = grind (arith, append_assoc)

-- ---- a new file

-- a new file is an age file of the stanzas that are read from its text of stanzas
pub new_file : (stanzas file_key nonce plain file : Bytes) → length nonce ≡ 16
    → IsNewFile stanzas file_key nonce plain file
    → (ss : List StanzaParts) × AgeFile limits (record { 0 = file_key }) ss plain file × Reads stanzas ss
new_file a b c d e f g = grind (arith, unmixed, read_of)

-- a text of one stanza is read as this stanza
alone_of : (text : Bytes) (s : StanzaParts) (ss : List StanzaParts) → IsStanza s text → Reads text ss → ss ≡ s ∷ []
alone_of text s ss is r =
    let mine : AreStanzas (s ∷ []) text = (text, [], is, refl, sym (append-nil text)) in
    let head : Head (s ∷ []) r.mac (probe text) = record {
      body = r.head.body;
      characters = r.head.characters;
      some = λ e. absurd (cc);
      stanza_text = rw (same_body text r.mac ss r.head) at mine;
      mac_len = r.head.mac_len;
      mac_text = r.head.mac_text;
      spelled = r.head.spelled;
    } in
    (reading ss (s ∷ []) r.mac r.mac (probe text) [] r.head (rw append-nil head)).1

pub one_file : (stanza : StanzaParts) (text file_key nonce plain file : Bytes) → length nonce ≡ 16
    → IsStanza stanza text → IsNewFile text file_key nonce plain file
    → AgeFile limits (record { 0 = file_key }) (stanza ∷ []) plain file
one_file stanza text file_key nonce plain file len is new =
    let (ss, whole, reads) = new_file text file_key nonce plain file len new in
    rw (alone_of text stanza ss is reads) at whole

-- ---- sizes

pub size_of : (k : FileKey) (header nonce plain : Bytes) → length nonce ≡ 16
    → length (header ++ payload k nonce plain) ≡ file_len (length header) (length plain)
size_of k header nonce plain len = omega
    (arith, len, length-append header (payload k nonce plain), payload_size k nonce plain)

file_size : {k : FileKey} {ss : List StanzaParts} (plain file : Bytes) (f : AgeFile limits k ss plain file)
    → length file ≡ file_len (length f.header) (length plain)
file_size {k} plain file f = ap length f.spelled ∙ size_of k f.header f.nonce plain f.nonce_len

pub key_file : (key salt stanza file_key nonce plain file : Bytes) → length salt ≡ 16 → length file_key ≡ 16
    → length nonce ≡ 16
    → IsStanza (keyed_stanza key salt (record { 0 = file_key })) stanza → IsNewFile stanza file_key nonce plain file
    → length file ≡ sealed_len (length plain)
key_file key salt stanza file_key nonce plain file salted keyed len is new =
    let f = one_file _ stanza file_key nonce plain file len is new in
    file_size plain file f ∙ ap (λ n. file_len n (length plain)) (key_header key salt _ salted keyed f.head)

pub pass_file : (pass salt stanza file_key nonce plain file : Bytes) (work : ℕ) → length salt ≡ 16
    → length file_key ≡ 16 → length nonce ≡ 16 → work ≤ 30
    → IsStanza (pass_stanza pass work salt (record { 0 = file_key })) stanza
    → IsNewFile stanza file_key nonce plain file → length file < sealed_len (length plain)
pass_file pass salt stanza file_key nonce plain file work salted keyed len high is new =
    let f = one_file _ stanza file_key nonce plain file len is new in
    omega (arith, pass_header pass salt _ salted keyed high f.head, file_size plain file f)
