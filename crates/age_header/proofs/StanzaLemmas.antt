-- One element more in a prefix of a list.
use Rattle.age_header.proofs.Common.{◌≡◌, ◌≢◌, ℕ, ◌+◌, ◌<◌, List, [], ◌∷◌, ◌++◌, length, take, map, get_or, refl, Global, String, take_more, map_push, AllByRecursion, string_bytes, Bytes, IsArgument, IsVisible, Bor, length-map, get_or-map}
use Rattle.age_header.proofs.LinesLemmas.{All-append}

pub all_take : {X : Type 0} (P : X → Type 0) (xs : List X) (i : ℕ) (d : X) → i < length xs
    → AllByRecursion P (take i xs) → P (get_or xs i d) → AllByRecursion P (take (i + 1) xs)
all_take P xs i d low h k = rw (take_more xs i d low) (All-append P (take i xs) (get_or xs i d ∷ []) h (k, tt))

pub args_take : (xs : List (Bor Bytes)) {i : ℕ} (d : Bor Bytes) → i < length xs
    → AllByRecursion IsArgument (take i (map (λ a. a.now) xs))
    → (get_or xs i d).now ≢ [] → AllByRecursion IsVisible (get_or xs i d).now
    → AllByRecursion IsArgument (take (i + 1) (map (λ a. a.now) xs))
args_take xs {i} d low h some seen =
    let low' : i < length (map (λ (a : Bor Bytes). a.now) xs) = rw length-map low in
    let is = get_or-map (λ (a : Bor Bytes). a.now) xs i d [] low in
    all_take IsArgument (map (λ a. a.now) xs) i [] low' h (rw is (some, seen))

pub copies_take : (xs : List (Bor Bytes)) {i : ℕ} (d : Bor Bytes) (old : List (String Global))
    {new : List (String Global)}
    (text : String Global) → i < length xs
    → map string_bytes old ≡ take i (map (λ a. a.now) xs) → new ≡ old ++ text ∷ []
    → string_bytes text ≡ (get_or xs i d).now
    → map string_bytes new ≡ take (i + 1) (map (λ a. a.now) xs)
copies_take xs {i} d old text low h is same =
    let low' : i < length (map (λ (a : Bor Bytes). a.now) xs) = rw length-map low in
    let at = get_or-map (λ (a : Bor Bytes). a.now) xs i d [] low in
    rw (is, map_push, h, same, ← at, take_more (map (λ a. a.now) xs) i [] low') refl
