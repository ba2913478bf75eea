-- The one state, if any, to which lines lead; the lines of a header; and the text of a state.
use Rattle.age_header.proofs.Common.{◌≡◌, ◌*◌, List, [], ◌∷◌, ◌++◌, length, refl, sym, ap, append_assoc, ◌∙◌, ◌+◌, ◌<◌, line_size, arith, codes, flat_map, inl, inr, ◌≢◌, length-append, append-nil, append_cancel_left, append_cancel_right, flat_map_more, AllByRecursion, concat, Bytes, IsBase64, StanzaParts, AreArguments, IsFullLine, argument_line, line, IsStanza, AreStanzas, version_line, State, between, within, Step, Leads, IsLineText, lines_text, concat-append, flat_map-append, IsHeaderPrefix, IsOpenStanza, rules}
use Rattle.age_header.proofs.ArgumentsLemmas.{args_once}
use Rattle.age_header.proofs.Base64Lemmas.{IsBase64-append, IsBase64-split, IsBase64-injective}
use Rattle.age_header.proofs.LinesLemmas.{All-append, All-split, characters_text, lines_of, argument_text, argument_line_text}

pub Leads-append : (s m t : State) (ks ls : List Bytes) → Leads s ks m → Leads m ls t → Leads s (ks ++ ls) t
Leads-append s m t [] ls h k = rw h k
Leads-append s m t (l ∷ ks) ls h k = (h.0, h.1, Leads-append h.0 m t ks ls h.2 k)

pub Leads-split : (s t : State) (ks ls : List Bytes) → Leads s (ks ++ ls) t → (m : State) × Leads s ks m × Leads m ls t
Leads-split s t [] ls h = (s, refl, h)
Leads-split s t (l ∷ ks) ls h = let r = Leads-split h.0 t ks ls h.2 in (r.0, (h.0, h.1, r.1), r.2)

-- full lines add their bytes to an open stanza
full_lead : (ss : List StanzaParts) (args : List Bytes) (body bytes : Bytes) (full : List Bytes) (last : Bytes)
    → AllByRecursion IsFullLine full → IsBase64 bytes (concat full ++ last)
    → (prefix : Bytes) × (back : Bytes) × (bytes ≡ prefix ++ back) × IsBase64 prefix (concat full) × IsBase64 back last
    × Leads (within ss args body) full (within ss args (body ++ prefix))
unfolding IsBase64
full_lead ss args body bytes [] last cut h = ([], bytes, refl, tt, h, ap (within ss args) (sym (append-nil body)))
full_lead ss args body bytes (f ∷ full) last cut h =
    let (a, b, is, first, more) = IsBase64-split 16 bytes f (concat full ++ last) cut.0 (rw append_assoc at h) in
    let (prefix, back, rest, whole, end, leads) = full_lead ss args (body ++ a) b full last cut.1 more in (
      a ++ prefix,
      back,
      is ∙ ap (a ++◌) rest ∙ sym (append_assoc a prefix back),
      IsBase64-append 16 a f prefix (concat full) cut.0 first whole,
      end,
      (within ss args (body ++ a), (a, refl, refl, cut.0, first, refl), rw (append_assoc body a prefix) at leads),
    )

-- a line that spells no arguments leads nowhere between stanzas
pub no_arguments : (ss : List StanzaParts) (l : Bytes) (s : State)
    → ((args : List Bytes) → AreArguments args → line l ≡ argument_line args → ⊥)
    → Step (between ss) l s → ⊥
no_arguments ss l (between ts) none h = h
no_arguments ss l (within ts args body) none h = none args h.2 h.3

-- a line that is not base64 leads nowhere within a stanza
pub no_base64 : (ss : List StanzaParts) (args : List Bytes) (body l : Bytes) (s : State)
    → ((b : Bytes) → IsBase64 b l → ⊥)
    → Step (within ss args body) l s → ⊥
no_base64 ss args body l (between ts) none h = none h.0 h.2
no_base64 ss args body l (within ts args' body') none h = none h.0 h.4

-- a line that is too long leads nowhere within a stanza
pub too_long : (ss : List StanzaParts) (args : List Bytes) (body l : Bytes) (s : State) → line_size < length l
    → Step (within ss args body) l s → ⊥
too_long ss args body l (between ts) long h = absurd (omega arith)
too_long ss args body l (within ts args' body') long h = absurd (omega arith)

-- a line leads to at most one state
pub Step-once : (s : State) (l : Bytes) (t u : State) → Step s l t → Step s l u → t ≡ u
Step-once (between ss) l (within ts args body) (within us brgs cody) (e0, e1, a, is) (f0, f1, b, also) =
    let same : args ≡ brgs = args_once args brgs a.1 b.1
    (append_cancel_left (codes "->") (flat_map (λ x. 32 ∷ x) args) (flat_map (λ x. 32 ∷ x) brgs)
    (append_cancel_right (argument_text args) (argument_text brgs) (10 ∷ []) (sym is ∙ also))) in cc
Step-once (within ss args body) l (within ts brgs cody) (within us crgs dody) (a, e0, e1, n, is, e2)
    (b, f0, f1, m, also, f2) = let same : a ≡ b = IsBase64-injective a b l is also in cc
Step-once (within ss args body) l (between ts) (between us) (a, n, is, e) (b, m, also, f) =
    let same : a ≡ b = IsBase64-injective a b l is also in cc
Step-once (within ss args body) l (within ts brgs cody) (between us) h k = grind arith
Step-once (within ss args body) l (between us) (within ts brgs cody) h k = grind arith
Step-once s l t u h k = absurd assumption

pub Leads-once : (s t u : State) (ls : List Bytes) → Leads s ls t → Leads s ls u → t ≡ u
Leads-once s t u [] h k = sym h ∙ k
Leads-once s t u (l ∷ ls) h k =
    let m : h.0 ≡ k.0 = Step-once s l h.0 k.0 h.1 k.1 in
    Leads-once h.0 t u ls h.2 (rw m k.2)

-- the lines of a stanza lead from `between` to `between`
stanza_lead : (ss : List StanzaParts) (s : StanzaParts) (text : Bytes) → IsStanza s text
    → (ls : List Bytes) × (text ≡ lines_text ls) × AllByRecursion IsLineText ls
    × Leads (between ss) ls (between (ss ++ s ∷ []))
stanza_lead ss s text h =
    let (prefix, back, is, _, end, leads) = full_lead ss s.args [] s.body h.full h.last h.cut.0 h.body in
    let (each, last) = All-split (λ c. c ≢ 10) (concat h.full) h.last (characters_text s.body _ h.body) in
    let whole : ss ++ s ∷ [] ≡ ss ++ record { args = s.args; body = prefix ++ back } ∷ [] =
    ap (λ (b : Bytes). ss ++ record { args = s.args; body = b } ∷ []) is in (
      argument_text s.args ∷ h.full ++ h.last ∷ [],
      h.spelled ∙ flat_map_more line (argument_line s.args) h.full h.last,
      (
        argument_line_text s.args h.arguments,
        All-append IsLineText h.full (h.last ∷ []) (lines_of h.full each) (last, tt),
      ),
      (
        within ss s.args [],
        (refl, refl, h.arguments, refl),
        Leads-append (within ss s.args []) (within ss s.args prefix) (between (ss ++ s ∷ [])) h.full (h.last ∷ [])
            leads (between (ss ++ s ∷ []), (back, h.cut.1, end, whole), refl),
      ),
    )

-- the lines of stanzas lead from `between` to `between`, with these stanzas added
pub stanzas_lead : (pre ss : List StanzaParts) (text : Bytes) → AreStanzas ss text
    → (ls : List Bytes) × (text ≡ lines_text ls) × AllByRecursion IsLineText ls
    × Leads (between pre) ls (between (pre ++ ss))
stanzas_lead pre [] text h = ([], h, tt, ap between (sym (append-nil pre)))
stanzas_lead pre (s ∷ ss) text (x, y, one, more, is) =
    let (ks, first, each, lead) = stanza_lead pre s x one in
    let (ls, rest, others, on) = stanzas_lead (pre ++ s ∷ []) ss y more in (
      ks ++ ls,
      is ∙ ap (◌++ y) first ∙ ap (lines_text ks ++◌) rest ∙ sym (flat_map-append line ks ls),
      All-append IsLineText ks ls each others,
      Leads-append (between pre) (between (pre ++ s ∷ [])) (between (pre ++ s ∷ ss)) ks ls lead
          (rw (append_assoc pre (s ∷ []) ss) at on),
    )

-- the lines of an incomplete stanza lead from `between` to some state
open_lead : (pre : List StanzaParts) (text : Bytes) → IsOpenStanza text
    → (ls : List Bytes) × (s : State) × (text ≡ lines_text ls) × AllByRecursion IsLineText ls × Leads (between pre) ls s
open_lead pre text h =
    let (prefix, _, _, _, _, leads) = full_lead pre h.args [] h.bytes h.full [] h.cut (rw append-nil h.body) in (
      argument_text h.args ∷ h.full,
      within pre h.args prefix,
      h.spelled,
      (argument_line_text h.args h.arguments, lines_of h.full (characters_text h.bytes (concat h.full) h.body)),
      (within pre h.args [], (refl, refl, h.arguments, refl), leads),
    )

join_one : (v w r : Bytes) (ls : List Bytes) → w ≡ lines_text ls → r ≡ [] → v ++ w ++ r ≡ v ++ lines_text ls
join_one v w r ls e f = rw (e, f) (append-nil (v ++ lines_text ls))

join_two : (v w r : Bytes) (ls ms : List Bytes) → w ≡ lines_text ls → r ≡ lines_text ms
    → v ++ w ++ r ≡ v ++ lines_text (ls ++ ms)
join_two v w r ls ms e f = rw (e, f, flat_map-append line ls ms) (append_assoc v (lines_text ls) (lines_text ms))

-- the version line and lines that lead somewhere
pub record Path (text : Bytes) : Type 0 where
  pub lines : List Bytes
  pub state : State
  pub is : text ≡ version_line ++ lines_text lines
  pub each : AllByRecursion IsLineText lines
  pub leads : Leads (between []) lines state

-- every text that is `IsHeaderPrefix` is such a path
pub prefix_path : {text : Bytes} → IsHeaderPrefix text → Path text
prefix_path h =
    let (ls, whole, each, leads) = stanzas_lead [] h.stanzas h.whole h.stanza_text in
    elim h.rest_text [
      | inl none ↦ record {
        lines = ls;
        state = between h.stanzas;
        is = h.spelled ∙ join_one version_line h.whole h.rest ls whole none;
        each = each;
        leads = leads;
      }
      | inr some ↦
          let (ms, s, rest, others, on) = open_lead h.stanzas h.rest some in
          record {
            lines = ls ++ ms;
            state = s;
            is = h.spelled ∙ join_two version_line h.whole h.rest ls ms whole rest;
            each = All-append IsLineText ls ms each others;
            leads = Leads-append (between []) (between h.stanzas) s ls ms leads on;
          }
    ]

pub record Within (ss : List StanzaParts) (args : List Bytes) (body text : Bytes) : Type 0 where
  whole : Bytes
  full : List Bytes
  stanza_text : AreStanzas ss whole
  arguments : AreArguments args
  cut : AllByRecursion IsFullLine full
  body_text : IsBase64 body (concat full)
  spelled : text ≡ whole ++ argument_line args ++ flat_map line full

-- the text that leads to a state
abbrev pub Spells : State → Bytes → Type 0
Spells (between ss) text = AreStanzas ss text
Spells (within ss args body) text = Within ss args body text

stanzas_more : (ss : List StanzaParts) {s : StanzaParts} (w : Bytes) {x : Bytes} → AreStanzas ss w → IsStanza s x
    → AreStanzas (ss ++ s ∷ []) (w ++ x)
stanzas_more [] w {x} h k = (x, [], k, refl, rw h (sym (append-nil x)))
stanzas_more (t ∷ ss) w {x} (front, back, one, more, is) k = search (rules, append_assoc, stanzas_more ss back more k)

full_size : (full : List Bytes) → AllByRecursion IsFullLine full → length (concat full) ≡ 4 * (16 * length full)
full_size [] h = refl
full_size (f ∷ full) h = omega (arith, length-append f (concat full), h.0, full_size full h.1)

-- a line that leads on adds its text
pub step_spells : (s : State) (l : Bytes) (t : State) (text : Bytes) → Spells s text → Step s l t
    → Spells t (text ++ line l)
unfolding IsBase64
step_spells (between ss) l (within ts args body) text h (stanzas, none, arguments, is) = grind (arith, append-nil)
step_spells (within ss args body) l (within ts args' body') text h (more, stanzas, same, full, is, grows) = record {
  whole = h.whole;
  full = h.full ++ l ∷ [];
  stanza_text = rw stanzas h.stanza_text;
  arguments = rw same h.arguments;
  cut = All-append IsFullLine h.full (l ∷ []) h.cut (full, tt);
  body_text = rw (grows, concat-append h.full (l ∷ []), append-nil l) (IsBase64-append (16 * length h.full) body
      (concat h.full) more l (full_size h.full h.cut) h.body_text is);
  spelled = rw same (ap (◌++ line l) h.spelled ∙ flat_map_more line (h.whole ++ argument_line args) h.full l);
}
step_spells (within ss args body) l (between ts) text h (more, short, is, stanzas) =
    let s : StanzaParts = record { args = args; body = body ++ more } in
    let one : IsStanza s (argument_line args ++ flat_map line h.full ++ line l) = record {
      full = h.full;
      last = l;
      arguments = h.arguments;
      cut = (h.cut, short);
      body = IsBase64-append (16 * length h.full) body (concat h.full) more l (full_size h.full h.cut) h.body_text is;
      spelled = refl;
    } in
    let text_is = ap (◌++ line l) (h.spelled ∙ append_assoc h.whole (argument_line args) (flat_map line h.full))
    ∙ append_assoc h.whole (argument_line args ++ flat_map line h.full) (line l) in
    rw (stanzas, text_is) (stanzas_more ss h.whole h.stanza_text one)
step_spells s l t text h k = absurd assumption

-- the text of a state, after the version line, is a prefix of a header
pub spells_prefix : (s : State) (text : Bytes) → Spells s text → IsHeaderPrefix (version_line ++ text)
spells_prefix (between ss) text h = search (rules, append-nil)
spells_prefix (within ss args body) text h = grind (arith, append_assoc h.whole (argument_line args) (flat_map line h.full), append_assoc version_line h.whole (argument_line args ++ flat_map line h.full))
