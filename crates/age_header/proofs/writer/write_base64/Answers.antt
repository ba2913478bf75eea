use Rattle.age_header.proofs.Common.{arith, rules, ◌≡◌, length, take, encoded_size_of, base64_of}
use Rattle.age_header.proofs.TextLemmas.{encoded, encoded_size_plain}
use Rattle.age_header.proofs.writer.write_base64.Goals as goal

pub returns-clause-text : goal.returns-clause-text
returns-clause-text g c =
    let size = encoded_size_plain c.args.engine.now (length c.args.bytes.now) c.requires.plain in
    let len : c.in-Ok.len ≡ encoded_size_of c.args.engine.now (length c.args.bytes.now) =
    cc (c.in-Ok.ensures.fits (omega (arith, c.requires.short))) in
    let same : take c.in-Ok.len c.encode_slice.new.output ≡ base64_of c.args.bytes.now =
    search (encoded, c.requires.plain, c.in-Ok.ensures.written, len) in
    rw (← same) c.write_all.ensures.text

pub unreachable-requires : goal.unreachable-requires
unreachable-requires g c =
    search (rules, encoded_size_plain, c.requires.plain, c.encode_slice.ensures.fits, c.requires.short)

pub slice_bounds-characters-end : goal.slice_bounds-characters-end
slice_bounds-characters-end g c = search rules

pub slice_bounds-write_all-end : goal.slice_bounds-write_all-end
slice_bounds-write_all-end g c = search rules
