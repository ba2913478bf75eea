-- Names that the proofs of this crate cite, re-exported from one place.
pub use Rattle.base64.proofs.EngineFacts.{front_bytes}
pub use Rattle.base64.proofs.RoundTrip.{length-encode_symbols}
pub use Rattle.base64.proofs.Tables.{all_below_at}
pub use Rattle.base64.specs.GeneralPurpose.{IsBytes, IsEncodedOver, config_padding, encode_of, encoded_size_of, engine_config, engine_symbols}
pub use Rattle.base64.specs.Rfc4648.{encode_group, encode_one, encode_two}
unfoldable pub use Rattle.base64.specs.Rfc4648.{encode_symbols}
pub use Rattle.base64.specs.Tables.{all_below}
pub use Rattle.base64.specs.declared.engine.general_purpose.GeneralPurpose.{GeneralPurpose}
pub use Rattle.std.proofs.Common.{Bor, Err, Global, IfOk, List, None, Ok, Option, Result, Some, String, [], ap, append-nil, append_assoc, arith, codes, drop, false, flat_map, get_or, inl, inr, length, length-append, length-drop, length-take, map, min, not, refl, replicate, rules, slice_index, subst, suc, sym, take, take-append-drop, true, zero, ℕ, ◌%◌, ◌*◌, ◌++◌, ◌+◌, ◌-◌, ◌/◌, ◌<◌, ◌==◌, ◌^◌, ◌∙◌, ◌∷◌, ◌≡◌, ◌≢◌, ◌≤◌, ◌⊎◌}
pub use Rattle.std.proofs.KnownBytes.{Appends-nil, Appends-trans, Consumes-nil, Consumes-trans, starts_with_rest}
pub use Rattle.std.proofs.Math.Seq.{take-add, take-append-add, take-append_seam}
pub use Rattle.std.proofs.lemmas.Bool.{cases_Bool, cases_eq, cases_lt, cases_order, eq-eqb, eqb-true, false≢true, iff_false}
pub use Rattle.std.proofs.lemmas.Bool.Decides.{Decides-eqb, nat_tests}
pub use Rattle.std.proofs.lemmas.Grind.{common_steps}
pub use Rattle.std.proofs.lemmas.List.{append_cancel_left, append_cancel_right, at_drop_more, drop_all, drop_at, flat_map_more, get_or-drop, get_or-map, length-map, map_push, nil_from_length, same_from_push, take-append-le, take-take, take_all, take_at, take_min, take_more}
pub use Rattle.std.proofs.lemmas.List.Concat.{flat_map-append}
pub use Rattle.std.proofs.lemmas.List.Folds.{concat-append, flat_map-map}
pub use Rattle.std.proofs.lemmas.Nat.{and_le_l, and_le_r}
pub use Rattle.std.proofs.lemmas.Result.{IfOk-weaker, err_from_is_err_and}
pub use Rattle.std.proofs.lemmas.Slice.Eq.{bytes_eq-Decides, strip_prefix_is}
pub use Rattle.std.proofs.lemmas.Str.{IsUtf8-from_ascii}
pub use Rattle.std.specs.Io.{ReadsAtMost}
pub use Rattle.std.specs.Io.KnownBytes.{Appends, Consumes, IsAtEnd}
pub use Rattle.std.specs.List.{AllByRecursion, concat, position_or_len}
pub use Rattle.std.specs.Prelude.{IfSome, ⊤, ◌&&◌}
pub use Rattle.std.specs.Str.{IsAscii, IsUtf8, bytes_eq}
pub use Rattle.std.specs.String.{string_bytes}
pub use Rattle.age_header.specs.Arguments.{NoVisible}
pub use Rattle.age_header.specs.Base64.{IsOne, IsThree, IsTwo, StandsFor}
unfoldable pub use Rattle.age_header.specs.Base64.{IsBase64, alphabet, base64_of, candidate, decoded_bytes, value_of}
pub use Rattle.age_header.specs.Device.{Flow, Gave, GaveAtMost, GaveSome, Gives, Grew, Known, OfGiven, Seen, Writes, WritesPart, flow, flow_by, move_of, seen_by}
pub use Rattle.age_header.specs.Filling.{Filled, Got}
pub use Rattle.age_header.specs.Header.{AreArguments, AreStanzas, Head, HeaderParts, IsArgument, IsFullLine, IsStanza, IsVisible, StanzaParts, argument_line, bytes_of_a_line, line, line_size, mac_size, version_size}
unfoldable pub use Rattle.age_header.specs.Header.{version_line}
pub use Rattle.age_header.specs.Lines.{IsEnd, IsOutside, line_bytes}
unfoldable pub use Rattle.age_header.specs.Mac.{header_mac}
pub use Rattle.age_header.specs.Reader.{ReadAtMost, ReadsHeader, Refuses}
pub use Rattle.age_header.specs.Steps.{Leads, State, Step, between, within}
pub use Rattle.age_header.specs.Text.{IsHeaderValue, IsPlain, IsWhole}
unfoldable pub use Rattle.age_header.specs.Text.{body_lines, body_text, mac_end, signed_text, stanza_text}
pub use Rattle.age_header.specs.Verdict.{AreLines, BeginsAsAge, BeginsWith, Decides, Finds, Found, HeaderVerdict, IsFault, IsHeader, IsHeaderPrefix, IsLineText, IsOpenStanza, IsUndecided, IsViable, lines_text}
pub use Rattle.age_header.specs.declared.device.DeviceFault.{DeviceFault}
pub use Rattle.age_header.specs.declared.fault.HeaderFault.{HeaderFault}
pub use Rattle.age_header.specs.declared.fault.HeaderFault.TheVariants.{BadLine, Memory, NotAge, Read, TooLarge, Truncated}
pub use Rattle.age_header.specs.declared.lines.LineEnd.{LineEnd}
pub use Rattle.age_header.specs.declared.lines.LineEnd.TheVariants.{Input, Lf, Room}
pub use Rattle.age_kdf.specs.Bytes.{Bytes}
