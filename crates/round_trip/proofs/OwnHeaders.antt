-- A header of one stanza, a passphrase's or a key's, is never refused.
use Rattle.round_trip.proofs.Common.{Head, Labels, StanzaParts, ◌≡◌, ℕ, ◌≤◌, List, [], ◌∷◌, length, sym, ap, subst, arith, ◌∙◌, Some, None, Result, Ok, false≢true, Bytes, header_mac, FileKey, IsFileKey, keyed_stanza, pass_stanza, Fault, HeaderTooLarge, MixedPassphrase, NoRecipients, Refused, IncompatibleRecipients, Bounds, IsBounds, is_mixed, Gathered, IsRefusal, one_index, key_header, pass_header}

-- what is gathered from one recipient that returns this stanza
abbrev Given : (stanza : StanzaParts) (meant : Labels) (gathered : Result (List StanzaParts) Fault) → Type 0
Given stanza meant gathered = Gathered (Ok (stanza ∷ []) ∷ []) (meant ∷ []) gathered

given_is : (stanza : StanzaParts) (meant : Labels) {gathered : Result (List StanzaParts) Fault}
    → Given stanza meant gathered → gathered ≡ Ok (stanza ∷ [])
given_is stanza meant (None, apart, e) = e
given_is stanza meant (Some i, apart, e) = let none : Some i ≡ None = one_index meant (Some i) apart in
    absurd (cc)

-- every header with only this stanza has at most 1,024 bytes
abbrev IsShort : (stanza : StanzaParts) → Type 0
IsShort stanza = (mac text : Bytes) → Head (stanza ∷ []) mac text → length text ≤ 1024

-- no header with only this stanza is refused, if such headers are short
unrefused : (limits : Bounds) (k : FileKey) (stanza : StanzaParts) (meant : Labels) → IsBounds limits → IsShort stanza
    → (fault : Fault)
    → IsRefusal limits k (Gathered (Ok (stanza ∷ []) ∷ []) (meant ∷ [])) fault → ⊥
unrefused limits k stanza meant bounds short (Refused i code) h = let e = given_is stanza meant h in absurd (cc)
unrefused limits k stanza meant bounds short (IncompatibleRecipients i) h = let e = given_is stanza meant h in
    absurd (cc)
unrefused limits k stanza meant bounds short NoRecipients h = let e = given_is stanza meant h in absurd (cc)
unrefused limits k stanza meant bounds short MixedPassphrase h =
    let e : h.0 ≡ stanza ∷ [] = cc (given_is stanza meant h.1) in
    absurd (false≢true (sym (ap is_mixed e) ∙ h.2))
unrefused limits k stanza meant bounds short HeaderTooLarge h =
    let e : h.stanzas ≡ stanza ∷ [] = cc (given_is stanza meant h.gives) in
    let most = short (header_mac k.0 h.stanzas) h.text
    (subst (λ ss. Head ss (header_mac k.0 h.stanzas) h.text) e h.head) in
    let least = bounds.header_low in
    let over = h.exceeds in
    absurd (omega arith)
unrefused limits k stanza meant bounds short _ h = absurd h

pub pass_unrefused : {limits : Bounds} {k : FileKey} (pass salt : Bytes) {work : ℕ} (meant : Labels) → IsBounds limits
    → length salt ≡ 16 → IsFileKey k → work ≤ 30 → (fault : Fault)
    → IsRefusal limits k (Gathered (Ok (pass_stanza pass work salt k ∷ []) ∷ []) (meant ∷ [])) fault → ⊥
pass_unrefused {limits} {k} pass salt {work} meant bounds salted keyed high =
    unrefused limits k (pass_stanza pass work salt k) meant bounds
    (λ mac text h. let most = pass_header pass salt k salted keyed.len high h in omega arith)

pub key_unrefused : {limits : Bounds} {k : FileKey} (key salt : Bytes) (meant : Labels) → IsBounds limits
    → length salt ≡ 16 → IsFileKey k → (fault : Fault)
    → IsRefusal limits k (Gathered (Ok (keyed_stanza key salt k ∷ []) ∷ []) (meant ∷ [])) fault → ⊥
key_unrefused {limits} {k} key salt meant bounds salted keyed =
    unrefused limits k (keyed_stanza key salt k) meant bounds
    (λ mac text h. let size = key_header key salt k salted keyed.len h in omega arith)
