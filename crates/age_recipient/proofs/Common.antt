-- Names that the proofs of this crate cite, re-exported from one place.
pub use Rattle.std.proofs.Common.{Bool, Bor, List, None, Option, Some, String, [], ap, arith, cond, drop, false, flat_map, get_or, length, length-append, map, not, refl, sym, take, true, true≢false, ℕ, ◌&&◌, ◌*◌, ◌+◌, ◌-◌, ◌/◌, ◌<◌, ◌||◌, ◌∙◌, ◌∷◌, ◌≡◌, ◌≤◌}
pub use Rattle.std.proofs.Math.Bool.{or-true}
pub use Rattle.std.proofs.lemmas.Bool.{and_parts, cases_Bool, eqb-true, leb-true}
pub use Rattle.std.proofs.lemmas.Cmp.{lists_equiv}
pub use Rattle.std.proofs.lemmas.Fmt.{length-decimal-le}
pub use Rattle.std.proofs.lemmas.Grind.{common_steps}
pub use Rattle.std.proofs.lemmas.List.{drop-map, drop_more, take_all}
pub use Rattle.std.proofs.lemmas.List.Folds.{list_any_more}
pub use Rattle.std.proofs.lemmas.Map.Text.{btree_set_updates_text, is_eq-slice_cmp}
pub use Rattle.std.specs.BTreeMap.{is_at}
pub use Rattle.std.specs.BTreeSet.{IsOrdered, contains_text}
pub use Rattle.std.specs.Cmp.{nat_eq_equiv}
pub use Rattle.std.specs.Cmp.Derive.Mapped.{pointwise-map}
pub use Rattle.std.specs.Cmp.Lexicographic.{pointwise, slice_cmp}
pub use Rattle.std.specs.Fmt.{decimal}
pub use Rattle.std.specs.Global.{Global}
pub use Rattle.std.specs.List.{AllByRecursion, AllZip, list_any, position_from}
unfoldable pub use Rattle.std.specs.List.Sorted.{IsStrictlySortedBy}
pub use Rattle.std.specs.Ordering.{nat_cmp}
pub use Rattle.std.specs.Str.{bytes_eq}
pub use Rattle.std.specs.String.{string_bytes, string_cmp, string_eq}
pub use Rattle.std.specs.declared.cmp.Ordering.TheVariants.{Less}
pub use Rattle.age_cipher.proofs.OpeningLemmas.{length-sealed_text}
pub use Rattle.age_header.proofs.Base64Lemmas.{IsBase64-only}
pub use Rattle.age_header.proofs.HeaderLemmas.{head_value, one_text}
pub use Rattle.age_header.proofs.LengthLemmas.{body_size, header_size, stanza_size}
pub use Rattle.age_header.proofs.TextLemmas.{header_text_is, signs_size}
pub use Rattle.age_header.specs.Base64.{IsBase64}
unfoldable pub use Rattle.age_header.specs.Base64.{base64_of}
pub use Rattle.age_header.specs.Device.{Known}
pub use Rattle.age_header.specs.Header.{Head, StanzaParts, argument_line, line}
pub use Rattle.age_header.specs.Text.{stanza_text}
pub use Rattle.age_header.specs.declared.file_key.FileKey.{FileKey}
pub use Rattle.age_kdf.specs.Bytes.{Bytes}
pub use Rattle.age_recipient.specs.Answer.{decides, decision, decision_from}
pub use Rattle.age_recipient.specs.Choice.{lacks_memory}
pub use Rattle.age_recipient.specs.KeyedStanza.{keyed_type}
unfoldable pub use Rattle.age_recipient.specs.KeyedStanza.{keyed_stanza, keyed_wrap_key}
pub use Rattle.age_recipient.specs.Labels.{IsSetOf, go_together}
pub use Rattle.age_recipient.specs.PassphraseHolders.{most_work}
pub use Rattle.age_recipient.specs.PassphraseStanza.{is_work_factor, number_from, scrypt_type}
unfoldable pub use Rattle.age_recipient.specs.PassphraseStanza.{pass_stanza, pass_wrap_key}
pub use Rattle.age_recipient.specs.Salt.{salt_of, salt_size}
pub use Rattle.age_recipient.specs.Sealing.{zero_nonce}
pub use Rattle.age_recipient.specs.declared.labels.Labels.{Labels}
pub use Rattle.age_recipient.specs.declared.labels.Labels.TheVariants.{Names}
pub use Rattle.age_recipient.specs.declared.unwrapped.Unwrapped.{Unwrapped}
