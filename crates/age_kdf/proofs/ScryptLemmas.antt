-- Words of joined bytes, and parts that are mixed one after another.
use Rattle.age_kdf.proofs.Common.{◌≡◌, ℕ, zero, suc, ◌+◌, ◌*◌, ◌≤◌, [], ◌∷◌, ◌++◌, length, take, drop, refl, ap, ap₂, ◌∙◌, arith, append_assoc, append-nil, take-put_mid, Bytes, Words, put_mid, words_of, mixed_parts, romix, get_or-append-add, drop-drop, get_or-append, drop-put_mid, word_at, rules}

-- words that lie in the first bytes
words_prefix : (xs ys : Bytes) (n : ℕ) → 4 * n ≤ length xs → words_of (xs ++ ys) n ≡ words_of xs n
unfolding words_of
words_prefix xs ys zero room = refl
words_prefix xs ys (suc n) room = search (rules, get_or-append, words_prefix xs ys n (omega arith))

-- a word that lies after the first bytes
word_behind : (xs ys : Bytes) (k : ℕ) → word_at (xs ++ ys) (length xs + k) ≡ word_at ys k
word_behind xs ys k = search (rules, get_or-append-add)

-- the words of joined bytes are the words of each, joined
pub words_joined : (xs ys : Bytes) (m n : ℕ) → length xs ≡ 4 * m
    → words_of (xs ++ ys) (m + n) ≡ words_of xs m ++ words_of ys n
unfolding words_of
words_joined xs ys m zero len = search (rules, append-nil, words_prefix)
words_joined xs ys m (suc n) len =
    let next : m + suc n ≡ suc (m + n) = omega arith in
    let at_is : 4 * (m + n) ≡ length xs + 4 * n = omega arith in
    ap (words_of (xs ++ ys)) next
    ∙ ap₂ (λ p q. p ++ q ∷ []) (words_joined xs ys m n len) (ap (word_at (xs ++ ys)) at_is ∙ word_behind xs ys (4 * n))
    ∙ append_assoc (words_of xs m) (words_of ys n) _

-- a block of eight words written after those that were written before
pub block_loaded : (words : Words) {ws : Words} (prefix block : Bytes) (i k : ℕ)
    → take (8 * i) words ≡ words_of prefix (8 * i)
    → ws ≡ words_of block 8 → length ws ≡ 8 → length prefix ≡ 32 * i → 8 * i + 8 ≤ length words
    → take (8 * (i + 1)) (put_mid (8 * i) k words ws) ≡ words_of (prefix ++ block) (8 * (i + 1))
block_loaded words {ws} prefix block i k before is len long room = search (rules, take-put_mid, words_joined)

-- a part mixed in place after those that were mixed before
pub part_mixed : (r n size i : ℕ) {k : ℕ} (next : ℕ) (b parts : Words) {x : Words}
    → size ≡ 32 * r → k ≡ size → next ≡ size * i + size
    → take (size * i) parts ≡ mixed_parts r n b i → drop (size * i) parts ≡ drop (size * i) b
    → x ≡ romix r n (take k (drop (size * i) parts)) → length x ≡ size → next ≤ length parts
    → record {
      done : take next (put_mid (size * i) k parts x) ≡ mixed_parts r n b (i + 1);
      rest : drop next (put_mid (size * i) k parts x) ≡ drop next b;
    }
unfolding mixed_parts
part_mixed r n size i {k} next b parts {x} size-is k-is next-is done rest x-is len room =
    search (rules, take-put_mid, drop-put_mid, drop-drop)
