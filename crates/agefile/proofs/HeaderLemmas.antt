-- The header at the start of bytes in memory.
use Rattle.agefile.proofs.Common.{◌≡◌, ◌⊎◌, ℕ, ◌-◌, ◌^◌, List, [], ◌∷◌, ◌++◌, length, length-take, take, map, min, sym, ◌∙◌, ap, refl, inl, inr, arith, Some, None, Result, Ok, Err, String, IfOk, take-take, Global, string_bytes, join_by, Bytes, CountsIf, Flow, HeaderFault, Head, HeaderParts, Found, HeaderVerdict, one_text, begins_found, found_again, of_known, of_more, Fault, Inspects, finding, header_fault, Report, fault_code, Refuses, Returns, report_of, GivesStanzas, HeaderOf, Inspected, InspectsStanzas, arguments_text, limits, front_size, IsFront}
use Rattle.age_header.specs.declared.fault.HeaderFault.TheVariants as header
use Rattle.age_file.specs.Device.{is_read}
use Rattle.std.proofs.lemmas.List.Folds.{flat_map-map}
use Rattle.agefile.specs.declared.inspecting.StanzaSummary.{StanzaSummary}
use Rattle.agefile.specs.declared.inspecting.Summary.{Summary}

-- what `inspect` returns for known bytes: their header, its fault, or out of memory
pub header_found : {b : Bytes} (source : Flow) (r : Result HeaderParts Fault) → source.before.to_come ≡ Some b
    → CountsIf is_read 0 0 r → Inspects limits source r → HeaderOf b r
header_found {b} source (Ok h) come count (text, took, found) =
    let x = finding text h in (
      text,
      of_known (λ c. HeaderVerdict c limits.max_header (Ok x)) source b come
          (of_more took (λ d end. found_again text limits.max_header x found d)),
    )
header_found source (Err fault) come count (header.Memory, is, h) = inl is
header_found source (Err fault) come count (header.Read, is, h) = absurd (omega (arith, rw is at count))
header_found {b} source (Err fault) come count (reason, is, h) = inr (reason, of_known _ source b come h, is)

-- ---- a front of 65,552 bytes

-- a front has the header verdict of its file
pub whole_verdict : (b : Bytes) (r : Result Found HeaderFault) → HeaderVerdict (take front_size b) limits.max_header r
    → HeaderVerdict b limits.max_header r
whole_verdict b r h = whole r (take-take limits.max_header front_size b (omega arith)) h
  where
    whole : (r : Result Found HeaderFault) → take limits.max_header (take front_size b) ≡ take limits.max_header b
        → HeaderVerdict (take front_size b) limits.max_header r → HeaderVerdict b limits.max_header r
    whole (Ok found) same h = record {
      lines = h.lines;
      begun = rw same at h.begun;
      decides = rw same at h.decides;
      is = h.is;
      head = h.head;
    }
    whole (Err header.NotAge) same h = rw same at h
    whole (Err (header.BadLine n)) same h = rw same at h
    whole (Err header.Truncated) same h = (rw same at h.0, rw same at h.1, omega (arith, h.2, length-take front_size b))
    whole (Err header.TooLarge) same h = (rw same at h.0, rw same at h.1, omega (arith, h.2, length-take front_size b))
    whole (Err header.Read) same h = absurd h
    whole (Err header.Memory) same h = absurd h

pub front_verdict : (b : Bytes) {front : Bytes} (r : Result Found HeaderFault) → IsFront front b
    → HeaderVerdict front limits.max_header r → HeaderVerdict b limits.max_header r
front_verdict b r (inl same) h = rw same at h
front_verdict b r (inr same) h = whole_verdict b r (rw same at h)

-- a front has the header of its file, or its fault
pub found_whole : (b : Bytes) {front : Bytes} (r : Result HeaderParts Fault) → IsFront front b → HeaderOf front r
    → HeaderOf b r
found_whole b (Ok h) near (text, found) = (text, front_verdict b (Ok (finding text h)) near found)
found_whole b (Err fault) near (inl memory) = inl memory
found_whole b (Err fault) near (inr (reason, found, is)) = inr (reason, front_verdict b (Err reason) near found, is)

-- the summary that a caller gets for a header
pub inspected : (b : Bytes) {h : Bytes} (header : HeaderParts) {old : Summary} {report : Report} {len stanzas : ℕ}
    {mac : Bytes} → HeaderOf b (Ok header) → report ≡ report_of 0 None
    → Head header.stanzas header.mac h → len ≡ min (length h) (2 ^ 64 - 1) → stanzas ≡ length header.stanzas
    → mac ≡ header.mac
    → Inspected b old (record { header_len = len; stanzas = stanzas; mac = mac }) report 0
inspected b {h} header {len} (text, found) none head is count same =
    let front = begins_found b limits.max_header (finding text header) found in
    let size : len ≡ length text =
    omega (arith, is, front.fits, ap length (one_text header.stanzas header.mac h text head front.head)) in
    inr (Ok (finding text header), found, (refl, none, rw (size, count, same) refl))

-- a fault is returned, which is that of the header or of a refused allocation
pub refused_as : {S : Type 0} (b : Bytes) {old : S} {report : Report} {code : ℕ} (fault : Fault)
    → HeaderOf b (Err fault) → report ≡ report_of 0 (Some fault) → code ≡ fault_code fault
    → Returns 17 None old old report code ⊎ ((reason : HeaderFault)
    × HeaderVerdict b limits.max_header (Err reason) × Refuses (header_fault reason) old old report code)
refused_as b fault (inl is) place returned = grind arith
refused_as b fault (inr (reason, found, is)) place returned = grind arith

joined_map : {X : Type 0} (f : X → Bytes) (xs : List X) → join_by f (32 ∷ []) xs ≡ arguments_text (map f xs)
joined_map f [] = refl
joined_map f (x ∷ xs) = ap (λ t. f x ++ t) (sym (flat_map-map (λ a. 32 ∷ a) f xs))

pub joined_text : {X E : Type 0} (f : X → Bytes) (xs : List X) {args : List Bytes} (r : Result (String Global) E)
    → map f xs ≡ args
    → IfOk r (λ t. string_bytes t ≡ join_by f (32 ∷ []) xs) → IfOk r (λ t. string_bytes t ≡ arguments_text args)
joined_text f xs (Ok t) same h = h ∙ joined_map f xs ∙ ap arguments_text same
joined_text f xs (Err e) same h = tt

-- ---- the stanzas of a header

pub list_found : (b : Bytes) (header : HeaderParts) {before after : List StanzaSummary} {old new : Bytes}
    {report : Report} {code : ℕ} → HeaderOf b (Ok header)
    → (Returns 17 None before after report code × (new ≡ old))
    ⊎ GivesStanzas header.stanzas before after old new report code
    → InspectsStanzas b before after old new report code
list_found b header of (inl up) = inl up
list_found b header (text, found) (inr gives) =
    inr (Ok (finding text header), found, gives)
