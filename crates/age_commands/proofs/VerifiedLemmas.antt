-- What is written of a range of any source, piece by piece.
use Rattle.age_commands.proofs.Common.{◌≡◌, ◌∙◌, Result, ◌+◌, ◌-◌, ◌*◌, ◌<◌, ◌≤◌, ℕ, ap, arith, inl, inr, length, refl, slice_index, subst, sym, take, Option, None, Err, ⊤, Keeps-refl, length-take-le, get_or-take, Bytes, CountsFaultIf, Known, Moved, move_of, StreamFault, Layout, StaysGiven, IsVerifiedByte, RangeState, Stops, range_len, chunk_size, Fault, Bounds, BeginsFile, IsOpenFault, Answering, stream_fault, IsPartFault, OfBytes, RangingAny, WritesAny, WritesVerified, answers_of, limits_of, Range, LossesMoved, Performs, IsQuiet, is_write, Job, Secret}
use Rattle.age_stream.proofs.RangeLemmas.{byte_stays}
use Rattle.age_commands.proofs.RangeLemmas.{follows, nothing}

-- what was verified in a buffer is verified in its prefix
pub filled : {gave : ℕ → ℕ → Type 0} {layout : Layout} (at : ℕ) {n : ℕ} (buf : Bytes) → n ≤ length buf
    → ((k : ℕ) → k < n → IsVerifiedByte gave layout (at + k) (slice_index buf k))
    → OfBytes (IsVerifiedByte gave layout) at (take n buf)
filled {gave} {layout} at {n} buf le verified k lt =
    let l : length (take n buf) ≡ n = length-take-le n buf le in
    subst (IsVerifiedByte gave layout (at + k)) (sym (get_or-take n buf k 0 (omega (arith, l, lt))))
    (verified k (omega (arith, l, lt)))

-- a range that stops within its first piece has written nothing
pub stopped : {gave : ℕ → ℕ → Type 0} {s : RangeState} (at left : ℕ) {most : ℕ} {was buf : Bytes}
    {opened : ℕ} {fault : StreamFault} {named : Fault} {old : Known} → most ≤ left → named ≡ stream_fault fault
    → Stops gave s at (range_len s at most) was buf opened fault
    → WritesAny gave s at left (move_of old old) (Err named)
stopped {gave} {s} at left {most} {old} le is stops =
    let some : 0 < range_len s at most = stops.some in
    let to : chunk_size * stops.chunk < at + range_len s at most = stops.to in (
      elim stops.lost [
        | inl failed ↦ inr (inl (is ∙ ap stream_fault failed))
        | inr lost ↦ inl (
          stops.chunk,
          is ∙ ap stream_fault lost.0,
          record { some = omega (arith, some, le); from = stops.from; to = omega (arith, to, le) },
        )
      ],
      (0, omega arith, nothing (IsVerifiedByte gave s.layout) at old refl),
    )

-- a fault of a later part of a range is a fault of the whole range
part_of_whole : (s t : RangeState) (begin len at left : ℕ) (fault : Fault) → t.layout ≡ s.layout
    → at + left ≡ begin + len → begin ≤ at → IsPartFault t at left fault → IsPartFault s begin len fault
part_of_whole s t begin len at left fault el end low p = grind arith

-- two parts that follow one another are one
pub joined : {early late : ℕ → ℕ → Type 0} {layout same : Layout} (at k from n m : ℕ) {old mid new : Known}
    → StaysGiven early late → same ≡ layout → from ≡ at + k → m ≡ k + n
    → WritesVerified early layout at k (move_of old mid) → WritesVerified late same from n (move_of mid new)
    → WritesVerified late layout at m (move_of old new)
joined {early} {late} {layout} {same} at k from n m stays el ef em one more =
    follows (IsVerifiedByte late layout) at k from n m
    (λ x byte h. byte_stays early late layout x byte stays h)
    (λ x byte h. subst (λ l. IsVerifiedByte late l x byte) el h) ef em one more

-- a range that fails after a part of it was written
pub failed_on : {early late : ℕ → ℕ → Type 0} (s t : RangeState) (begin len at left : ℕ) {old mid new : Known}
    {fault : Fault} → StaysGiven early late → t.layout ≡ s.layout → at + left ≡ begin + len → begin ≤ at
    → at - begin ≤ range_len s begin len
    → WritesVerified early s.layout begin (at - begin) (move_of old mid)
    → WritesAny late t at left (move_of mid new) (Err fault) → WritesAny late s begin len (move_of old new) (Err fault)
failed_on {early} {late} s t begin len at left {old} {mid} {new} {fault} stays el end low some one
    (which, (n, within, more)) =
    let plain : t.layout.plain ≡ s.layout.plain = ap (λ (l : Layout). l.plain) el in (
      part_of_whole s t begin len at left fault el end low which,
      (
        at - begin + n,
        omega (arith, within, plain, end, low, some),
        joined begin (at - begin) at n (at - begin + n) stays el (omega (arith, low)) refl one more,
      ),
    )

-- `RangingAny` for a source that was opened
pub ranged : {D : Type 0} {gave : D → ℕ → ℕ → Type 0} {found : D → Option ℕ} {limits : Bounds}
    {f answers : Answering} {at len : ℕ} (source : D) {new : D} {s : RangeState} {old taken : Known}
    {r : Result ⊤ Fault} → f ≡ answers → BeginsFile limits f (gave source) (found source) s
    → WritesAny (gave new) s at len (move_of old taken) r
    → RangingAny gave found limits answers at len new (move_of old taken) r
ranged {gave} {found} {limits} source {s} means begins writes = inr (record {
  source = source;
  state = s;
  begins = subst (λ (a : Answering). BeginsFile limits a (gave source) (found source) s) means begins;
  writes = writes;
})

-- `RangingAny` for a source that was not opened
pub unopened : {D : Type 0} {gave : D → ℕ → ℕ → Type 0} {found : D → Option ℕ} {limits : Bounds} {answers : Answering}
    (at len : ℕ) {new : D} {old : Known} {fault : Fault} → IsOpenFault fault
    → RangingAny gave found limits answers at len new (move_of old old) (Err fault)
unopened at len {old} named = inl (named, Keeps-refl old)

-- `Performs` for a range of a source of which proofs know only the size
pub ranges_unseen : {D : Type 0} {found : D → Option ℕ} (job : Job) (secret : Secret) (from : Known) {new : D}
    {sink : Moved} (lost : LossesMoved) {r : Result ⊤ Fault}
    → RangingAny (λ source at byte. ⊤) found (limits_of job) (answers_of secret job.max_work) job.at job.len new sink r
    → Performs job (Range secret) ⊤ from sink lost r
ranges_unseen job secret from lost (inl none) = (None, inl none)
ranges_unseen {found} job secret from lost (inr o) = (
  found o.source,
  inr (record { source = found o.source; state = o.state; begins = o.begins; writes = o.writes }),
)

-- a fault after a file was opened is one before which something may have been written
pub quiet_part : {W : Type 0} (gave : ℕ → ℕ → Type 0) (s : RangeState) (at len : ℕ) (sink : Moved) (old new : W)
    (r : Result ⊤ Fault) → WritesAny gave s at len sink r → IsQuiet old new r
quiet_part gave s at len sink old new r h = grind arith

-- a fault of opening is not a failed write
pub opens_unwritten : {n : ℕ} (fault : Fault) → IsOpenFault fault → CountsFaultIf is_write n n fault
opens_unwritten fault is = grind arith
