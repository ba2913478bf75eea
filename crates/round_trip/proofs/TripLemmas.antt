-- One recipient's file, and what one identity reads of it.
use Rattle.round_trip.proofs.Common.{Bytes, Done, Known, Labels, Reading, StanzaParts, Unwrapped, whole, ◌≡◌, ◌∙◌, ℕ, List, [], ◌∷◌, ◌++◌, map, sym, ap, subst, arith, refl, inl, inr, Some, None, Result, Ok, Err, IfErr, append-nil, none-some, CountsFaultIf, Flow, move_of, of_known, Fault, TooManyChunks, Read, Write, OutOfMemory, Fresh, AgeFile, Bounds, Decrypts, DecryptsText, is_read, EncryptsGiven, EncryptsText, Gathered, Gathering, RefusesFirst, IsRefusal, Answering, IsVerdict, IsLoss, IsMemoryFault, IsUnwritten, none, TripError, Encrypting}

-- the stanzas gathered from one recipient are those that it returns
pub gathered_one : (wrapped : Result (List StanzaParts) ℕ) (meant : List Labels) (stanzas : List StanzaParts)
    → Gathered (wrapped ∷ []) meant (Ok stanzas) → wrapped ≡ Ok stanzas
gathered_one (Ok given) meant stanzas (None, apart, e) = let same : stanzas ≡ given ++ [] = cc in
    ap Ok (sym (append-nil given) ∙ sym same)
gathered_one (Ok given) meant stanzas (Some i, apart, e) = cc
gathered_one (Err code) meant stanzas (place, apart, e) = cc

pub file_of_one : (limits : Bounds) (fresh : Fresh) {wrapped : Result (List StanzaParts) ℕ} (meant : List Labels)
    (plain file : Bytes) (done : Done) → {source : Flow} → source.before.to_come ≡ Some plain
    → EncryptsGiven limits fresh (Gathered (wrapped ∷ []) meant) source (move_of (Some []) (Some file)) (Ok done)
    → (stanzas : List StanzaParts) × (wrapped ≡ Ok stanzas) × AgeFile limits fresh.file_key stanzas plain file
file_of_one limits fresh {wrapped} meant plain file done {source} come given =
    let h = of_known _ source plain come given in (
      h.1.header.stanzas,
      gathered_one wrapped meant h.1.header.stanzas h.1.header.heading.gives,
      subst (λ f. AgeFile limits fresh.file_key h.1.header.stanzas plain f) (sym h.2) h.1.file,
    )

-- what holds of every error holds of the error of a result
pub never_err : {A E : Type 0} {P : E → Type 0} (r : Result A E) → ((e : E) → P e) → IfErr r P
never_err (Ok x) f = tt
never_err (Err e) f = f e

-- the bytes have at most one verdict
abbrev pub IsOnce : Bounds → Answering → Bytes → Type 0
IsOnce limits answers b = (v w : Reading Fault) → IsVerdict limits answers b v → IsVerdict limits answers b w → v ≡ w

pub text_of_whole : (limits : Bounds) {answers : Answering} (b plain text : Bytes) (done : Done)
    → IsOnce limits answers b
    → IsVerdict limits answers b (whole plain)
    → {source : Flow} → source.before.to_come ≡ Some b
    → Decrypts limits answers source (move_of (Some []) (Some text)) (Ok done)
    → text ≡ plain
text_of_whole limits {answers} b plain text done once is {source} come decrypts =
    let h = of_known _ source b come decrypts in
    h.3 ∙ ap (λ (v : Reading Fault). v.plaintext) (once h.0 (whole plain) h.1 is)

-- if no read failed and the verdict has no fault, a fault of decrypting is `OutOfMemory` or `Write`
lost_of_whole : (limits : Bounds) (answers : Answering) (b plain : Bytes) (fault : Fault) (old new : Known)
    → IsOnce limits answers b
    → IsVerdict limits answers b (whole plain) → CountsFaultIf is_read 0 0 fault
    → DecryptsText limits answers b (move_of old new) (Err fault) → IsMemoryFault fault
lost_of_whole limits answers b plain OutOfMemory old new once is count h = inl refl
lost_of_whole limits answers b plain Write old new once is count h = inr refl
lost_of_whole limits answers b plain Read old new once is count h = absurd (omega arith)
lost_of_whole limits answers b plain fault old new once is count h =
    absurd (none-some fault (ap (λ (v : Reading Fault). v.fault) (once (whole plain) h.0 is h.1) ∙ h.2))

-- the same if the identity is the only one
pub lost_of_one : {X : Type 0} {limits : Bounds} (meaning : X → List StanzaParts → Unwrapped) {xs : List X} {x : X}
    {b plain : Bytes} {fault : Fault} (old new : Known) → xs ≡ x ∷ [] → IsOnce limits (λ s. meaning x s ∷ []) b
    → IsVerdict limits (λ s. meaning x s ∷ []) b (whole plain)
    → CountsFaultIf is_read 0 0 fault
    → {source : Flow} → source.before.to_come ≡ Some b
    → Decrypts limits (λ s. map (λ i. meaning i s) xs) source (move_of old new) (Err fault) → IsMemoryFault fault
lost_of_one {limits} meaning {x} {b} {plain} {fault} old new list once is count {source} come h =
    lost_of_whole limits (λ s. meaning x s ∷ []) b plain fault old new once is count
    (subst (λ z. DecryptsText limits (λ s. map (λ i. meaning i s) z) b (move_of old new) (Err fault)) list
    (of_known _ source b come h))

-- the faults of encrypting a plaintext in memory
unwritten : (limits : Bounds) (fresh : Fresh) (gathered : Gathering) (plain : Bytes) (fault : Fault) (old new : Known)
    → CountsFaultIf is_read 0 0 fault
    → RefusesFirst limits fresh.file_key gathered fault
    → EncryptsText limits fresh gathered plain (move_of old new) (Err fault)
    → IsUnwritten (IsRefusal limits fresh.file_key gathered) limits plain fault
unwritten limits fresh gathered plain OutOfMemory old new count refused h = inl (inl refl)
unwritten limits fresh gathered plain Write old new count refused h = inl (inr refl)
unwritten limits fresh gathered plain Read old new count refused h = absurd (omega arith)
unwritten limits fresh gathered plain TooManyChunks old new count refused h = inr (inl (refl, h.1.too_many))
unwritten limits fresh gathered plain _ old new count refused h = inr (inr refused)

-- the same if the recipient is the only one
pub unwritten_of_one : {X : Type 0} (limits : Bounds) (fresh : Fresh) (wraps : X → Result (List StanzaParts) ℕ)
    (labels : X → Labels) {xs : List X} {x : X} {plain : Bytes} {fault : Fault}
    (old new : Known) → xs ≡ x ∷ [] → CountsFaultIf is_read 0 0 fault
    → RefusesFirst limits fresh.file_key (Gathered (map wraps xs) (map labels xs)) fault
    → {source : Flow} → source.before.to_come ≡ Some plain
    → EncryptsGiven limits fresh (Gathered (map wraps xs) (map labels xs)) source (move_of old new) (Err fault)
    → IsUnwritten (IsRefusal limits fresh.file_key (Gathered (wraps x ∷ []) (labels x ∷ []))) limits plain fault
unwritten_of_one limits fresh wraps labels {x} {plain} {fault} old new list count refused {source} come h =
    unwritten limits fresh (Gathered (wraps x ∷ []) (labels x ∷ [])) plain fault old new count
    (rw list at refused)
    (subst (λ z. EncryptsText limits fresh (Gathered (map wraps z) (map labels z)) plain (move_of old new) (Err fault))
    list (of_known _ source plain come h))

-- if `refuses` holds of no fault, a loss is one by `IsLoss none`
pub without_refusal : {A : Type 0} {refuses : Fault → Type 0} (limits : Bounds) (plain : Bytes) (r : Result A TripError)
    → ((fault : Fault) → refuses fault → ⊥)
    → IfErr r (IsLoss refuses limits plain) → IfErr r (IsLoss none limits plain)
without_refusal limits plain (Ok x) never h = tt
without_refusal limits plain (Err (Encrypting fault)) never (inl memory) = inl memory
without_refusal limits plain (Err (Encrypting fault)) never (inr (inl long)) = inr (inl long)
without_refusal limits plain (Err (Encrypting fault)) never (inr (inr refused)) = absurd (never fault refused)
without_refusal limits plain (Err lost) never h = h
