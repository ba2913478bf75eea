-- One step of a loop over answers: their decision, and whether memory may run out.
use Rattle.std.proofs.Common.{Result, Ok, Err}
use Rattle.std.specs.Result.{IfErr}
use Rattle.std.proofs.lemmas.List.Folds.{list_any_at}
use Rattle.age_recipient.proofs.Common.{◌≡◌, Bool, true, false, ◌||◌, ◌&&◌, not, ℕ, ◌+◌, ◌<◌, List, ◌∷◌, map, drop, length, get_or, drop_more, decides, decision_from, drop-map, lacks_memory, or-true, Unwrapped, arith}

-- the decision of the answers from index i on, if the answer at i is known
pub decided_step : {A : Type 0} (f : A → Unwrapped) (xs : List A) {i : ℕ} {x : A} (so_far : Unwrapped) {a : Unwrapped}
    → i < length xs
    → x ≡ get_or xs i x → a ≡ f x
    → decision_from so_far (drop i (map f xs)) ≡ decision_from so_far (a ∷ drop (i + 1) (map f xs))
decided_step f xs {i} {x} so_far {a} low is answer = grind (arith, drop-map, drop_more)

-- memory may run out from index i on: at i, or after it if the answer at i does not decide
lacks_step : {A : Type 0} (f : A → Unwrapped) (may : A → Bool) (xs : List A) {i : ℕ} {x : A}
    → i < length xs → x ≡ get_or xs i x
    → lacks_memory (drop i (map f xs)) (drop i (map may xs))
    ≡ (may x || (not (decides (f x)) && lacks_memory (drop (i + 1) (map f xs)) (drop (i + 1) (map may xs))))
lacks_step f may xs {i} {x} low is = grind (arith, drop-map, drop_more)

pub lacks_here : {A : Type 0} (f : A → Unwrapped) (may : A → Bool) (xs : List A) {i : ℕ} {x : A}
    → i < length xs → x ≡ get_or xs i x → may x ≡ true
    → lacks_memory (drop i (map f xs)) (drop i (map may xs)) ≡ true
lacks_here f may xs low is here = rw (lacks_step f may xs low is, here)

pub lacks_later : {A : Type 0} (f : A → Unwrapped) (may : A → Bool) (xs : List A) {i : ℕ} {x : A} {a : Unwrapped}
    → i < length xs → x ≡ get_or xs i x → a ≡ f x → decides a ≡ false
    → lacks_memory (drop (i + 1) (map f xs)) (drop (i + 1) (map may xs)) ≡ true
    → lacks_memory (drop i (map f xs)) (drop i (map may xs)) ≡ true
lacks_later f may xs {i} {x} low is answer goes_on later =
    rw (lacks_step f may xs low is, ← answer, goes_on, later) (or-true (may x))

-- a fact that does not depend on the result holds of its error
pub if_err_of : {A E P : Type 0} (result : Result A E) → P → IfErr result (λ _. P)
if_err_of (Ok _) p = tt
if_err_of (Err _) p = p

pub ruleset decisions = (decided_step, lacks_here, lacks_later, if_err_of)

pub ruleset first_opened = (decided_step, if_err_of, list_any_at)
