-- Facts about a stanza's parts, its salt and its work factor.
use Rattle.age_recipient.proofs.Common.{◌≡◌, List, refl, sym, Bytes, StanzaParts, length, Some, None, cases_Bool, eqb-true, Known, salt_of, salt_size, arith, ℕ, ◌+◌, ◌*◌, ◌<◌, ◌≤◌, [], ◌∷◌, true, ◌-◌, and_parts, leb-true, most_work, is_work_factor, number_from}

-- a stanza is its arguments and its body
pub of_parts : (s : StanzaParts) {args : List Bytes} {body : Bytes} → s.args ≡ args → s.body ≡ body
    → s ≡ record { args = args; body = body }
of_parts s a b = rw (sym a, sym b) refl

-- a decoded text of another length is not a salt
pub no_salt : (o : Known) (bytes : Bytes) → Some bytes ≡ o → (length bytes ≡ salt_size → ⊥) → None ≡ salt_of o
no_salt None bytes is other = cc
no_salt (Some found) bytes is other = grind (arith, cases_Bool, eqb-true)

-- digits make a number no smaller
number_grows : (n : ℕ) (digits : Bytes) → n ≤ number_from n digits
number_grows n [] = omega arith
number_grows n (c ∷ digits) = let more = number_grows (n * 10 + (c - 48)) digits in omega (arith, more)

-- three digits or more, the first not 0, spell a number above the greatest work factor
pub long_number : (text : Bytes) → 3 ≤ length text → is_work_factor text ≡ true → most_work < number_from 0 text
long_number [] n h = absurd (omega arith)
long_number (a ∷ []) n h = absurd (omega arith)
long_number (a ∷ b ∷ []) n h = absurd (omega arith)
long_number (a ∷ b ∷ c ∷ text) n h = grind (arith, and_parts, leb-true, number_grows)
