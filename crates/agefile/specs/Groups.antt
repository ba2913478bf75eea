-- The results of calls on a payload and on its parts, in the order of the chunks: single calls, or
-- groups of them. Calls on different parts share no struct, so they may come in any order, and at
-- the same time.
use Rattle.std.specs.Prelude.{◌≡◌, ◌⊎◌, ◌++◌, ◌+◌, ◌∷◌, ◌≢◌}
use Rattle.agefile.specs.Words.{ℕ, false, List, [], length, take, Bytes, sealed_text, chunk_nonce, is_end, tag_size, Part, Payload, Report}
use Rattle.agefile.specs.Codes.{ok}
use Rattle.agefile.specs.Part as part
use Rattle.agefile.specs.Payload.{OpensNext, SealsNext}

-- Calls that open these sealed chunks in order, the final one as the payload's last, up to the
-- first call that returns a code other than 0: the texts that the calls returned, concatenated, and
-- that code with its place, or 0 for both.
abbrev pub OpensRun : (p : Payload) (pieces : List Bytes) (text : Bytes) (code place : ℕ) → Type 0
OpensRun p [] text code place = (text ≡ []) × ((code ≡ ok) × (place ≡ 0))
OpensRun p (chunk ∷ more) text code place =
    (new : Payload) × (after : Bytes) × (report : Report) × (step_code : ℕ)
    × OpensNext p new chunk after (is_end more) report step_code
    × (((step_code ≡ ok)
    × ((rest : Bytes) × (text ≡ take report.len after ++ rest)
    × OpensRun new more rest code place))
    ⊎ ((step_code ≢ ok) × ((text ≡ []) × ((code ≡ step_code) × (place ≡ report.place)))))

-- Calls that seal these texts in order, each followed by 16 bytes, the final one as the payload's
-- last chunk, up to the first call that returns a code other than 0: the sealed chunks that the
-- calls returned, concatenated, and that code, or 0.
abbrev pub SealsRun : (p : Payload) (chunks : List Bytes) (out : Bytes) (code : ℕ) → Type 0
SealsRun p [] out code = (out ≡ []) × (code ≡ ok)
SealsRun p (text ∷ more) out code =
    (new : Payload) × (room : Bytes) × (length room ≡ tag_size) × (after : Bytes)
    × (report : Report) × (step_code : ℕ)
    × SealsNext p new (text ++ room) after (is_end more) report step_code
    × (((step_code ≡ ok) × ((rest : Bytes) × (out ≡ after ++ rest) × SealsRun new more rest code))
    ⊎ ((step_code ≢ ok) × ((out ≡ []) × (code ≡ step_code))))

-- Calls in order, one for each of these items: each starts in the state that the call before it
-- left, and `gave` is their results, concatenated.
abbrev pub Runs : {S X : Type 0} (Call : (old new : S) (item : X) (gave : Bytes) → Type 0)
    (old new : S) (items : List X) (gave : Bytes) → Type 0
Runs Call old new [] gave = (new ≡ old) × (gave ≡ [])
Runs {S} Call old new (item ∷ more) gave =
    (mid : S) × (mine : Bytes) × (rest : Bytes) × (gave ≡ mine ++ rest) × Call old mid item mine
    × Runs Call mid new more rest

-- Some chunks of a payload, which continues after them: a single chunk that a call on the payload
-- took, or all chunks of a part of the payload, taken by calls on the part.
abbrev pub TakesSome : (Call : (old new : Payload) (chunk gave : Bytes) → Type 0)
    (PartCall : (old new : Part) (chunk gave : Bytes) → Type 0) (old new : Payload)
    (chunks : List Bytes) (gave : Bytes) → Type 0
TakesSome Call PartCall old new chunks gave =
    ((chunk : Bytes) × (chunks ≡ chunk ∷ []) × Call old new chunk gave)
    ⊎ ((given : Part) × (used : Part) × (report : Report)
    × part.TakesPart old new (length chunks) given report ok × Runs PartCall given used chunks gave)

-- the chunks of groups, in order
abbrev pub all_of : List (List Bytes) → List Bytes
all_of [] = []
all_of (chunks ∷ more) = chunks ++ all_of more

-- a call sealed this text, before 16 bytes of room, as a chunk that others follow
abbrev pub Seals : (old new : Payload) (text out : Bytes) → Type 0
Seals old new text out =
    (room : Bytes) × (length room ≡ tag_size)
    × (report : Report) × SealsNext old new (text ++ room) out false report ok

abbrev pub PartSeals : (old new : Part) (text out : Bytes) → Type 0
PartSeals old new text out =
    (room : Bytes) × (length room ≡ tag_size)
    × (report : Report) × part.SealsNext old new (text ++ room) out report ok

-- groups of chunks in order, each sealed by the payload or by a part; the sealed chunks, joined
abbrev pub SealsGroups : (old new : Payload) (groups : List (List Bytes)) (out : Bytes) → Type 0
SealsGroups old new groups out = Runs (TakesSome Seals PartSeals) old new groups out

-- a call opened this piece as a chunk that others follow
abbrev pub OpensPiece : (old new : Payload) (piece text : Bytes) → Type 0
OpensPiece old new piece text =
    (after : Bytes) × (report : Report) × OpensNext old new piece after false report ok
    × (text ≡ take report.len after)

abbrev pub PartOpens : (old new : Part) (piece text : Bytes) → Type 0
PartOpens old new piece text =
    (after : Bytes) × (report : Report) × part.OpensNext old new piece after report ok
    × (text ≡ take report.len after)

-- groups of pieces in order, each opened by the payload or by a part; their texts, joined
abbrev pub OpensGroups : (old new : Payload) (groups : List (List Bytes)) (text : Bytes) → Type 0
OpensGroups old new groups text = Runs (TakesSome OpensPiece PartOpens) old new groups text

-- chunks, each sealed under its number from number i on, none of them as the last
abbrev pub unended_chunks : (key : Bytes) (i : ℕ) (texts : List Bytes) → List Bytes
unended_chunks key i [] = []
unended_chunks key i (text ∷ more) =
    sealed_text key (chunk_nonce i false) [] text ∷ unended_chunks key (i + 1) more
