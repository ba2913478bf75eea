-- How the values of options become a job's fields.
use Rattle.age_args.proofs.Common.{◌≡◌, ℕ, ◌+◌, ◌<◌, ◌≤◌, Bool, false, List, [], ◌∷◌, ◌++◌, length, map, take, get_or, Bor, Option, Some, None, Result, IfSome, codes, option_map, unwrap_or, arith, refl, String, Global, option_map_or, bytes_eq, ParsesBool, ParsesUnsigned, string_bytes, get_or-map, map_push, length-map, take_more, bytes_eq-Decides, IsUnsignedIn, ReadsOne, Text, IsBetween, NamesInput, Command}
use Rattle.std.specs.Str.Parse.{digits_value, without_leading_plus}

abbrev number_of : Text → ℕ
number_of text = digits_value 10 (without_leading_plus text)

pub copies_take : (xs : List (Bor Text)) {i : ℕ} (d : Bor Text) (old : List (String Global))
    {new : List (String Global)}
    (text : String Global) → i < length xs
    → map string_bytes old ≡ take i (map (λ a. a.now) xs) → new ≡ old ++ text ∷ []
    → string_bytes text ≡ (get_or xs i d).now
    → map string_bytes new ≡ take (i + 1) (map (λ a. a.now) xs)
copies_take xs {i} d old text low h is same =
    let now : Bor Text → Text = λ a. a.now in
    let at = get_or-map now xs i d [] low in
    grind (arith, length-map xs now, at, map_push string_bytes old text, take_more (map now xs) i [])

pub number_read : {E : Type 0} (G : List ℕ → Result ℕ E → Type 0) {o : Option Text} {r : Option ℕ} (d : ℕ)
    → (o ≡ None → r ≡ None) → ((t : List ℕ) → o ≡ Some t → ReadsOne G t r)
    → ((u : List ℕ) (x : Result ℕ E) → G u x → ParsesUnsigned 64 10 u x)
    → IfSome o (λ t. (least : ℕ) × (most : ℕ) × IsUnsignedIn least most t)
    → unwrap_or r d ≡ option_map_or number_of o d
number_read G {o = None} d none value only h = grind (arith, none)
number_read G {o = Some t} d none value only h = grind (arith, value t refl, only)

pub flag_read : (E : Type 0) {o : Option Text} {r : Option Bool}
    → (o ≡ None → r ≡ None) → ((t : List ℕ) → o ≡ Some t → ReadsOne (ParsesBool {E = E}) t r)
    → unwrap_or r false ≡ option_map_or (λ t. bytes_eq t (codes "true")) o false
flag_read E {o = None} none value = grind arith
flag_read E {o = Some t} none value = grind (arith, value t refl, bytes_eq-Decides)

pub has_number : (least most : ℕ) (o : Option Text) → IfSome o (IsUnsignedIn least most)
    → IfSome o (λ t. (least : ℕ) × (most : ℕ) × IsUnsignedIn least most t)
has_number least most o h = grind arith

pub in_range : {least most d : ℕ} (o : Option Text) → IfSome o (IsUnsignedIn least most)
    → least ≤ d → d ≤ most → IsBetween least most (option_map_or number_of o d)
in_range o h low high = grind arith

abbrev pub nows : List (Bor Text) → List Text
nows xs = map (λ t. t.now) xs

pub names_input : {A : Type 0} (f : A → Text) (command : Command) (o : Option A) {v : Option Text} → option_map f o ≡ v
    → NamesInput command v → NamesInput command o
names_input a b c d e = grind arith
