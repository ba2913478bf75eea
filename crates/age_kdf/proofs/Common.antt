-- Names that the proofs of this crate and of `kdf_bench` cite, re-exported from one place.
pub use Rattle.sha2.proofs.Facts256.{length-sha256}
unfoldable pub use Rattle.sha2.specs.Sha256.{compress, digest_bytes, first_words, hash_after, rounds, schedule, sha256}
pub use Rattle.std.proofs.Common.{List, [], add-one, ap, append_assoc, ap₂, arith, bit_or, bit_xor, drop, get_or, length, length-append, map, refl, replicate, rules, slice_index, slice_index_or, subst, suc, sym, take, zero, ℕ, ◌%◌, ◌*◌, ◌++◌, ◌+◌, ◌-◌, ◌/◌, ◌<◌, ◌^◌, ◌∙◌, ◌∷◌, ◌≡◌, ◌≤◌}
pub use Rattle.std.proofs.Math.ListN.{get_or-append}
pub use Rattle.std.proofs.Math.Nat.{add-mul-mod_self_left, mul-le-mul_left, mul_assoc}
pub use Rattle.std.proofs.Math.Seq.{take-append-add}
pub use Rattle.std.proofs.lemmas.Grind.{common_steps}
pub use Rattle.std.proofs.lemmas.List.{append-nil, drop-drop, drop-replicate, drop-take, drop_at, get_or-append-add, get_or_default, length-take-le, same_lists, take_all}
pub use Rattle.std.proofs.lemmas.List.FromFn.{fill_by_all}
pub use Rattle.std.proofs.lemmas.Nat.{mod_below, pow-add, pow_pos}
pub use Rattle.std.proofs.lemmas.Simd.{get_or-chunk, get_or-replicate, get_or-zip2, length-chunk, length-zip2, zip2_splat_left}
pub use Rattle.std.proofs.lemmas.Slice.{drop-put_mid, overwrites, take-put_mid, take-put_mid_below}
pub use Rattle.std.specs.Int.{rotate_left, to_be_bytes, w32}
pub use Rattle.std.specs.List.{flat_map}
pub use Rattle.std.specs.Prelude.{codes}
pub use Rattle.std.specs.Simd.Lanes.{number_l, zip2}
pub use borrow.Rule.Slice.PartMut.{put_mid}
pub use Rattle.age_kdf.specs.BlockMix.{block}
unfoldable pub use Rattle.age_kdf.specs.BlockMix.{block_mix, evens, odds, x_after}
pub use Rattle.age_kdf.specs.Bytes.{Bytes, Words}
pub use Rattle.age_kdf.specs.Diagonals.{rotation, words_in_order}
unfoldable pub use Rattle.age_kdf.specs.Diagonals.{four_steps}
unfoldable pub use Rattle.age_kdf.specs.Hkdf.{hkdf, hkdf_block, hkdf_blocks}
unfoldable pub use Rattle.age_kdf.specs.Hmac.{hmac}
unfoldable pub use Rattle.age_kdf.specs.HmacState.{IsFed}
unfoldable pub use Rattle.age_kdf.specs.Pbkdf2.{pbkdf2, pbkdf2_blocks, pbkdf2_round, pbkdf2_sum}
pub use Rattle.age_kdf.specs.RoMix.{integerify, romix}
unfoldable pub use Rattle.age_kdf.specs.RoMix.{romix_after, v_at}
pub use Rattle.age_kdf.specs.Salsa.{add32}
unfoldable pub use Rattle.age_kdf.specs.Salsa.{columns, double_rounds, quarter, rows, salsa8}
pub use Rattle.age_kdf.specs.Scrypt.{bytes_of, word_at}
unfoldable pub use Rattle.age_kdf.specs.Scrypt.{mixed_parts, scrypt, words_of}
