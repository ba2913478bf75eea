-- Lists that are written block by block, and lists computed from two, element by element.
use Rattle.age_kdf.proofs.Common.{◌≡◌, ℕ, ◌<◌, ◌≤◌, length, take, get_or, sym, ◌∙◌, arith, zip2, take_all, get_or-zip2, length-zip2, List, same_lists, get_or_default, ◌+◌, ◌++◌, refl, rules, length-append, take-put_mid, Bytes, put_mid, take-append-add, overwrites}

-- a list whose elements are f of the elements of xs and ys is zip2 f xs ys
pub zipped : (f : ℕ → ℕ → ℕ) (xs ys : List ℕ) {out : List ℕ} {n : ℕ} → length xs ≡ n → length ys ≡ n → length out ≡ n
    → ((k : ℕ) → k < n → get_or out k 0 ≡ f (get_or xs k 0) (get_or ys k 0)) → out ≡ zip2 f xs ys
zipped f xs ys {out} {n} len-xs len-ys len-out is =
    let len : length (zip2 f xs ys) ≡ n = length-zip2 f xs ys (len-xs ∙ sym len-ys) ∙ len-xs in
    same_lists out (zip2 f xs ys) (len-out ∙ sym len) (λ k d below.
    get_or_default out k d 0 below ∙ is k (omega arith) ∙ sym (get_or-zip2 f xs ys k 0 0 d (omega arith) (omega arith)))

-- a list of at most k elements is its first k elements
pub full : {k : ℕ} {out xs : List ℕ} → length out ≤ k → take k out ≡ xs → out ≡ xs
full {k} {out} whole is = sym (take_all k out whole) ∙ is

-- a block written over a list that has room for all of it
pub whole : (out prefix block : Bytes) {ys : Bytes} {at next : ℕ} (k : ℕ)
    → length prefix ≡ at → take at out ≡ take (length out) prefix
    → length block ≡ 32 → ys ≡ take 32 block → next ≡ at + 32 → at + 32 ≤ length out
    → take next (put_mid at k out ys) ≡ take (length out) (prefix ++ block)
whole out prefix block {ys} {at} {next} k size same len is on room =
    let all : ys ≡ block = is ∙ take_all 32 block (omega arith) in
    take-put_mid at k out ys next (rw all (omega arith)) (omega arith)
    ∙ rw (
      same,
      all,
      take_all (length out) prefix (omega arith),
      take_all (length out) (prefix ++ block) (omega (arith, length-append prefix block)),
    ) refl

-- a block written over a list that has room for its first n bytes only
pub cut : (out prefix block : Bytes) {ys : Bytes} {at next k m : ℕ} (n : ℕ) → length prefix ≡ at
    → take at out ≡ take (length out) prefix → length ys ≡ n → ys ≡ take m block → m ≡ n → k ≡ n
    → at + n ≡ length out → length out ≤ next
    → take next (put_mid at k out ys) ≡ take (length out) (prefix ++ block)
cut out prefix block {ys} {at} {next} {k} n size same len is m-is k-is end past =
    search (rules, overwrites, take_all, take-put_mid, take-append-add)

pub ruleset put_block = (whole, cut)
