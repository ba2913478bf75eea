-- Names that the proofs of this crate cite, re-exported from one place.
pub use Rattle.std.proofs.Common.{List, None, Some, [], add-one, ap, append_assoc, ap₂, arith, bit_and, bit_or, bit_xor, drop, get_or, inl, inr, length, length-append, map, refl, replicate, rules, set, slice_index, slice_index_or, suc, sym, take, w32, zero, zero-add, ℕ, ◌%◌, ◌*◌, ◌++◌, ◌+◌, ◌-◌, ◌/◌, ◌<◌, ◌^◌, ◌↔◌, ◌∙◌, ◌∷◌, ◌≡◌, ◌≢◌, ◌≤◌, length-take}
pub use Rattle.std.proofs.Math.Nat.{add-mul-mod_self_left, mod-eq_of_lt, pow-suc, pow-zero}
pub use Rattle.std.proofs.Math.Seq.{take-append_seam, set-append_seam}
pub use Rattle.std.proofs.lemmas.Bool.{cases_Bool, cases_lt}
pub use Rattle.std.proofs.lemmas.Grind.{common_steps, flat_map-append}
pub use Rattle.std.proofs.lemmas.List.{append-nil, drop-drop, drop_at, get_or-append_right, get_or-map, get_or_append_left, length-drop, length-map, length-set, length-take-le, map-set, take-append-drop, take-replicate, take_all, take_at, drop-replicate}
pub use Rattle.std.proofs.lemmas.List.FromFn.{fill_by_all, get_or-map-range_with_len, length-map-range_with_len}
pub use Rattle.std.proofs.lemmas.List.Sums.{sum_by-cons}
pub use Rattle.std.proofs.lemmas.Nat.{and_mask, mul-le, mul-mod_first}
pub use Rattle.std.proofs.lemmas.Simd.{below_from_Fits, get_or-chunk, get_or-put_chunk_above, get_or-put_chunk_at, get_or-put_chunk_below, get_or-zip2, length-chunk, length-replicate, length-zip2, zip2_splat}
pub use Rattle.std.proofs.lemmas.Slice.Eq.{bytes_eq-Decides}
pub use Rattle.std.specs.Fn.{iterate}
pub use Rattle.std.specs.Int.{from_le_bytes, rotate_left, w128}
pub use Rattle.std.specs.Int.Bits.{xor_assoc, xor_self, xor_zero_r}
pub use Rattle.std.specs.List.{flat_map, range_with_len, sum_by}
pub use Rattle.std.specs.Simd.{first_chunks}
pub use Rattle.std.specs.Simd.Lanes.{Each1, digits_l, number_l, put_chunk, zip2}
pub use Rattle.age_cipher.specs.Bytes.{Bytes, Words, tag_size}
pub use Rattle.age_cipher.specs.ChaCha20.{add_words, stream_byte}
unfoldable pub use Rattle.age_cipher.specs.ChaCha20.{add_xor_rotate, block, block_words, double_round, quarter_round, start, ten_double_rounds, xored_text}
pub use Rattle.age_cipher.specs.Lanes.{IsXored, bytes, column, lane, lane_byte}
pub use Rattle.age_cipher.specs.LimbLanes.{EachLane}
unfoldable pub use Rattle.age_cipher.specs.LimbLanes.{lanes_sum}
pub use Rattle.age_cipher.specs.Limbs.{AtMost}
unfoldable pub use Rattle.age_cipher.specs.Limbs.{value}
pub use Rattle.age_cipher.specs.Numbers.{le, le_bytes}
pub use Rattle.age_cipher.specs.Poly1305.{block_count, prime}
unfoldable pub use Rattle.age_cipher.specs.Poly1305.{block_at, block_sum, poly1305}
pub use Rattle.age_cipher.specs.Poly1305State.{Poly1305State}
unfoldable pub use Rattle.age_cipher.specs.Poly1305State.{sum_after, tag_after}
pub use Rattle.age_cipher.specs.Sealing.{Opens, padded_text}
unfoldable pub use Rattle.age_cipher.specs.Sealing.{opened_text, sealed_text, tag_of}
pub use Rattle.age_cipher.specs.declared.limb_lanes.LimbLanes.{LimbLanes}
pub use Rattle.age_cipher.specs.declared.limbs.Limbs.{Limbs}
