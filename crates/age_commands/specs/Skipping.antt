-- Reading a file of which some bytes cannot be read.
use Rattle.std.specs.Prelude.{◌≡◌, ◌<◌, ◌⊎◌, if◌then◌else◌}
use Rattle.age_commands.specs.Words.{ℕ, Bool, true, false, IfSome, Option, None, Some, Consumes, IsAtEnd, Bytes, Known}
use Rattle.age_commands.specs.declared.skipping.Reached.{Reached}
use Rattle.age_commands.specs.declared.skipping.Reached.TheVariants.{Place, End, Failure}
use Rattle.age_commands.specs.declared.skipping.Unread.{Unread}

-- the bytes to come of a reader, if they are known; None if zeros may be returned for some of them
abbrev pub come_by : (skips : Bool) (from : Known) → Known
come_by skips from = if skips then None else from

-- There is a reader of this type that counts more than `before` failures. Code that is generic over
-- the type has such a reader only after a failed read.
abbrev pub HasFailed : {R : Type 0} (failures : R → ℕ) (before : ℕ) → Type 0
HasFailed {R} failures before = (later : R) × (before < failures later)

-- A reader that held `start` has `now` still to come, and the bytes before `now` were returned as
-- `past`; at the end none are to come. Only if a read `failed`, `past` may be other bytes.
abbrev pub HasRead : (reached : Reached) (failed : Type 0) (start now : Known) (past : Bytes)
    → Type 0
HasRead Place failed start now past = Consumes start now past
HasRead End failed start now past = Consumes start now past × IsAtEnd now
HasRead Failure failed start now past = Consumes start now past ⊎ failed

-- all bytes were read, up to the end
abbrev pub is_end : Reached → Bool
is_end End = true
is_end _ = false

-- the number of bytes for which zeros were returned
abbrev pub unread_len : Option Unread → ℕ
unread_len None = 0
unread_len (Some unread) = unread.bytes

-- the first of the bytes to come, if they are known
abbrev pub IsFirst : (from : Known) (bytes : Bytes) → Type 0
IsFirst from bytes = (left : Known) × Consumes from left bytes

-- P holds of the bytes that were read: the first of those to come, unless a read `failed`. If IN is
-- not named, or was read to its end, P holds of all bytes to come, if they are known.
abbrev pub OfRead : {A : Type 0} (input : Option A) (is_read : Bool) (failed : Type 0)
    (from : Known) (P : Bytes → Type 0) → Type 0
OfRead input is_read failed from P =
    (given : Bytes) × P given × (IsFirst from given ⊎ failed)
    × ((input ≡ None) ⊎ (is_read ≡ true) → IfSome from P)
