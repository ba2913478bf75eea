use Rattle.age_cipher.proofs.Common.{◌≡◌, ℕ, ◌+◌, ◌*◌, ◌/◌, ◌%◌, ◌^◌, ◌<◌, ◌≤◌, length, arith, rules, ap, refl, ◌∙◌, lane, start, block_words}
use Rattle.age_cipher.proofs.LaneLemmas.{get_or-range_with_len}
use Rattle.age_cipher.proofs.BlockLemmas.{xored_on, xored_with_lanes, xored_as_part}
use Rattle.age_cipher.proofs.chacha20_blocks.xor_sixteens.Goals as goal

pub pieces-init : goal.pieces-init
pieces-init c =
    let key = c.args.key.now in
    let nonce = c.args.nonce.now in
    let n = c.args.counter in (
      refl,
      omega arith,
      search rules,
      λ j inside. c.spread.ensures j n key nonce inside c.start-state.ensures
          ∙ ap (λ m. start key nonce m) (ap (λ i. (n + i) % 2 ^ 32) (get_or-range_with_len 0 16 j 0 inside)
          ∙ ap (λ m. m % 2 ^ 32) (omega arith)),
    )

pub pieces-preserved : goal.pieces-preserved
pieces-preserved c =
    let key = c.args.key.now in
    let nonce = c.args.nonce.now in
    let n = c.args.counter in
    let at = c.pieces.at in
    let whole = c.pieces.invariant.0 in
    let room : at + 1024 ≤ length c.args.buf.now = omega (arith, c.pieces.auto.buf, c.pieces.invariant.1, c.pieces-test.true) in
    let words : (k : ℕ) → 64 * k < 1024 → lane k c.mix.new.words ≡ block_words (start key nonce (n + at / 64 + k)) =
    λ k low. c.mix.ensures k (omega arith)
    ∙ ap block_words (c.pieces.invariant.3 k (omega arith)
    ∙ ap (λ m. start key nonce m) (omega (arith, room, whole, c.requires))) in
    let piece = xored_as_part key nonce n whole refl
    (xored_with_lanes c.mix.new.words key nonce (n + at / 64) words c.xor_lanes.ensures) in (
      omega (arith, whole),
      omega (arith, room, c.xor_lanes.auto.buf, c.pieces.auto.buf),
      xored_on (omega arith) c.pieces.invariant.2 piece,
      λ j inside. c.advance.ensures j ((n + at / 64 + j) % 2 ^ 32) key nonce inside (c.pieces.invariant.3 j inside)
          ∙ ap (λ m. start key nonce m) (omega (arith, whole)),
    )
