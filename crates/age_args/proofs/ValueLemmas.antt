-- What the value of a result or of an option is equal to.
use Rattle.age_args.proofs.Common.{◌≡◌, Option, Result, option_map, unwrap_or, IfOk, arith}

pub IfOk-equal_to : {X T E : Type 0} (r : Result T E) (f : T → X) {y z : X} → IfOk r (λ t. f t ≡ y) → y ≡ z
    → IfOk r (λ t. f t ≡ z)
IfOk-equal_to r f h e = grind arith

pub mapped_or : {T U : Type 0} (f : T → U) (o : Option T) (d : T) {t : T} {v : Option U} → t ≡ unwrap_or o d
    → option_map f o ≡ v → f t ≡ unwrap_or v (f d)
mapped_or f o d is e = grind arith
