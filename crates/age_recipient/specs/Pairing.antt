-- The laws of the pairs: the identity unwraps what the recipient wraps. They are in specs/ because
-- an impl names the proof of its law, and cannot name one in proofs/.
use Rattle.std.proofs.Common.{inl, inr, ◌≡◌, ◌∙◌, ℕ, zero, suc, ◌+◌, ◌<◌, ◌≤◌, ◌&&◌, Bool, true, List, [], ◌∷◌, length, map, nat_eq, nat_le, refl, sym, ap, subst, Ok, Err, Some}
use Rattle.std.proofs.lemmas.Bool.{and_parts, eqb-true, eq-eqb, le-leb, cases_lt}
use Rattle.std.proofs.Math.Dec.{lit≤}
use Rattle.std.proofs.Math.Nat.{le_antisymm, le_trans, lt_of_le_of_lt, not-le_of_lt, not-suc-le-zero}
use Rattle.std.proofs.lemmas.Fmt.{decimal-digits_of}
use Rattle.std.specs.Fmt.{decimal}
use Rattle.std.specs.Int.Digits.{digits_of}
use Rattle.std.specs.declared.result.Result.{Result}
use Rattle.age_kdf.specs.Bytes.{Bytes}
use Rattle.age_cipher.specs.Bytes.{tag_size}
use Rattle.age_cipher.proofs.OpeningLemmas.{length-sealed_text, opened_text-sealed_text}
use Rattle.age_header.specs.Base64.{decoded_bytes, base64_of}
use Rattle.age_header.specs.Header.{StanzaParts}
use Rattle.age_header.proofs.Base64Lemmas.{decoded_bytes-base64_of}
use Rattle.age_header.specs.declared.file_key.FileKey.{FileKey}
use Rattle.age_recipient.specs.declared.unwrapped.Unwrapped.{Unwrapped}
use Rattle.age_recipient.specs.declared.unwrapped.Unwrapped.TheVariants.{Key}
use Rattle.age_recipient.specs.Answer.{decision}
use Rattle.age_recipient.specs.Key.{IsFileKey}
use Rattle.age_recipient.specs.KeyedHolders.{KeySecret, key_unwraps, key_wraps}
use Rattle.age_recipient.specs.KeyedStanza.{keyed_answer, keyed_stanza, keyed_wrap_key}
use Rattle.age_recipient.specs.PassphraseHolders.{most_work, PairFits, PassSecret, PassGuess, pass_wraps, pass_unwraps}
use Rattle.age_recipient.specs.PassphraseStanza.{is_work_factor, number_from, pass_answer, pass_stanza, pass_wrap_key}
use Rattle.age_recipient.specs.Salt.{IsSalt, salt_of, salt_size}
use Rattle.age_recipient.specs.Sealing.{sealed_key, sealed_key_size, unsealed_key, zero_nonce}

-- f holds of each number below n
abbrev all_below : (f : ℕ → Bool) (n : ℕ) → Bool
all_below f zero = true
all_below f (suc n) = f n && all_below f n

below_suc : (n k : ℕ) → k < suc n → k ≤ n
below_suc n k low = elim (cases_lt n k) [
  | inl above ↦ absurd (not-le_of_lt low above)
  | inr le ↦ le
]

all_below_at : (f : ℕ → Bool) (n k : ℕ) → all_below f n ≡ true → k < n → f k ≡ true
all_below_at f zero k e low = absurd (not-suc-le-zero low)
all_below_at f (suc n) k e low =
    let p = and_parts (f n) (all_below f n) e in
    elim (cases_lt k n) [
      | inl less ↦ all_below_at f n k p.1 less
      | inr more ↦ subst (λ (z : ℕ). f z ≡ true) (le_antisymm more (below_suc n k low)) p.0
    ]

-- a text is a work factor, and spells this number
abbrev is_spelled : (text : Bytes) (n : ℕ) → Bool
is_spelled text n = is_work_factor text && nat_eq (number_from 0 text) n

-- the digits of a number above 0, as text
abbrev digits_text : ℕ → Bytes
digits_text n = map (λ d. 48 + d) (digits_of 10 n)

-- the decimal text of a work factor spells it
spelled : (work : ℕ) → 1 ≤ work → work ≤ most_work → is_spelled (decimal work) work ≡ true
spelled zero low high = absurd (not-suc-le-zero low)
spelled (suc n) low high =
    let table : all_below (λ k. is_spelled (digits_text (suc k)) (suc k)) most_work ≡ true = refl in
    let at = all_below_at (λ k. is_spelled (digits_text (suc k)) (suc k)) most_work n table high in
    let text : decimal (suc n) ≡ digits_text (suc n) =
    decimal-digits_of (suc n) low (lt_of_le_of_lt high (lit≤ tt)) in
    rw text at

-- unsealing a sealed key returns the file key
pub unsealed_key-sealed_text : (wrap_key : Bytes) (file_key : FileKey)
    → unsealed_key wrap_key (sealed_key wrap_key file_key) ≡ Key file_key
unfolding unsealed_key
unsealed_key-sealed_text wrap_key file_key = rw
    (opened_text-sealed_text wrap_key zero_nonce [] file_key.0) refl

-- a sealed key has 32 bytes
sealed_whole : (wrap_key : Bytes) (file_key : FileKey) → IsFileKey file_key
    → nat_eq (length (sealed_key wrap_key file_key)) sealed_key_size ≡ true
sealed_whole wrap_key file_key is =
    eq-eqb (length (sealed_key wrap_key file_key)) sealed_key_size
    (length-sealed_text wrap_key zero_nonce [] file_key.0 ∙ ap (λ n. n + tag_size) is.len)

-- the base64 of a salt decodes to it
salt_spelled : (salt : Bytes) → IsSalt salt → salt_of (decoded_bytes (base64_of salt)) ≡ Some salt
salt_spelled salt is =
    rw (decoded_bytes-base64_of salt is.bytes, eq-eqb (length salt) salt_size is.len) refl

-- an identity opens the stanza of a recipient of the same passphrase, if their work factors fit
pass_opens : (pass salt : Bytes) (work max : ℕ) (file_key : FileKey) → IsSalt salt
    → PairFits work max → IsFileKey file_key
    → pass_answer pass max (pass_stanza pass work salt file_key) ≡ Key file_key
unfolding pass_answer pass_stanza
pass_opens pass salt work max file_key is_salt fits is_key =
    let text : Bytes = decimal work in
    let high : work ≤ most_work = le_trans fits.within fits.top in
    let parts = and_parts (is_work_factor text) (nat_eq (number_from 0 text) work)
    (spelled work fits.low high) in
    let number : number_from 0 text ≡ work = eqb-true (number_from 0 text) work parts.1 in
    let top : nat_le work max ≡ true = le-leb work max fits.within in
    let whole = sealed_whole (pass_wrap_key pass salt work) file_key is_key in
    rw (salt_spelled salt is_salt, parts.0, number, top, whole)
    (unsealed_key-sealed_text (pass_wrap_key pass salt work) file_key)

-- an identity opens the stanza of a recipient of the same key
keyed_opens : (key salt : Bytes) (file_key : FileKey) → IsSalt salt → IsFileKey file_key
    → keyed_answer key (keyed_stanza key salt file_key) ≡ Key file_key
unfolding keyed_answer keyed_stanza
keyed_opens key salt file_key is_salt is_key =
    rw (salt_spelled salt is_salt, sealed_whole (keyed_wrap_key key salt) file_key is_key)
    (unsealed_key-sealed_text (keyed_wrap_key key salt) file_key)

stanzas_of : Result (List StanzaParts) ℕ → List StanzaParts
stanzas_of (Ok stanzas) = stanzas
stanzas_of (Err code) = []

-- If a recipient's secret opens its one stanza, the decision of an identity of the same secret is
-- the file key. `answer s stanza` is the answer to a stanza of an identity whose secret is `s`.
pair_opens : (answer : Bytes → StanzaParts → Unwrapped) (secret guess : Bytes)
    (stanza : StanzaParts) (stanzas : List StanzaParts) (file_key : FileKey)
    (wrapped : Result (List StanzaParts) ℕ) → wrapped ≡ Ok (stanza ∷ []) → secret ≡ guess
    → answer secret stanza ≡ Key file_key → wrapped ≡ Ok stanzas
    → decision (map (answer guess) stanzas) ≡ Key file_key
unfolding stanzas_of
pair_opens answer secret guess stanza stanzas file_key wrapped one same opens wraps =
    let list : stanzas ≡ stanza ∷ [] = ap stanzas_of (sym wraps ∙ one) in
    let guessed : answer guess stanza ≡ Key file_key =
    subst (λ g. answer g stanza ≡ Key file_key) same opens in
    rw (list, guessed) refl

-- the law of a passphrase's pair
pub pair_law : (r : PassSecret) (i : PassGuess) (file_key : FileKey) (stanzas : List StanzaParts)
    → r.pass ≡ i.pass → IsSalt r.salt → PairFits r.work i.max → IsFileKey file_key
    → pass_wraps r file_key ≡ Ok stanzas → pass_unwraps i stanzas ≡ Key file_key
pair_law r i file_key stanzas same salt fits is =
    pair_opens (λ pass. pass_answer pass i.max) r.pass i.pass
    (pass_stanza r.pass r.work r.salt file_key) stanzas file_key (pass_wraps r file_key) refl same
    (pass_opens r.pass r.salt r.work i.max file_key salt fits is)

-- the law of a key's pair
pub key_pair_law : (r : KeySecret) (i : Bytes) (file_key : FileKey) (stanzas : List StanzaParts)
    → r.key ≡ i → IsSalt r.salt → IsFileKey file_key → key_wraps r file_key ≡ Ok stanzas
    → key_unwraps i stanzas ≡ Key file_key
key_pair_law r i file_key stanzas same salt is =
    pair_opens keyed_answer r.key i (keyed_stanza r.key r.salt file_key) stanzas file_key
    (key_wraps r file_key) refl same
    (keyed_opens r.key r.salt file_key salt is)
