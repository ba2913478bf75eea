-- The arguments of a line, read one after the other.
use Rattle.age_header.proofs.Common.{◌≡◌, ◌≢◌, zero, suc, ◌≤◌, List, [], ◌∷◌, ◌++◌, refl, sym, ap, arith, append_assoc, ◌∙◌, codes, flat_map, append-nil, append_cancel_left, append_cancel_right, flat_map_more, AllByRecursion, Bytes, NoVisible, AreArguments, IsArgument, IsVisible, argument_line, line, IsAscii, rules, common_steps}
use Rattle.age_header.proofs.LinesLemmas.{All-append}

pub visible_ascii : (a : Bytes) → AllByRecursion IsVisible a → IsAscii a
visible_ascii [] h i = omega arith
visible_ascii (c ∷ a) h zero = let top : c ≤ 126 = h.0.1 in omega arith
visible_ascii (c ∷ a) h (suc i) = visible_ascii a h.1 i

-- the text of arguments, each after a space
abbrev pub spaced : List Bytes → Bytes
spaced args = flat_map (λ a. 32 ∷ a) args

-- an argument line, without its LF, and a line that is not one
abbrev pub SpellsArguments : Bytes → Type 0
SpellsArguments text = (args : List Bytes) × AreArguments args × (line text ≡ argument_line args)

abbrev pub SpellsNone : Bytes → Type 0
SpellsNone text = (args : List Bytes) → AreArguments args → line text ≡ argument_line args → ⊥

-- how far a line was read: these arguments, then a rest that has all further ones
pub record Parsed (text : Bytes) (az : List Bytes) (rest : Bytes) : Type 0 where
  pub each : AllByRecursion IsArgument az
  pub spelled : text ≡ codes "->" ++ (spaced az ++ rest)
  pub only : (bs : List Bytes) → AreArguments bs → line text ≡ argument_line bs
      → (more : List Bytes) × AllByRecursion IsArgument more × (rest ≡ spaced more)

line_text : (text : Bytes) (bs : List Bytes) → line text ≡ argument_line bs → text ≡ codes "->" ++ spaced bs
line_text text bs e = append_cancel_right text (codes "->" ++ spaced bs) (10 ∷ []) e

-- a text begins with one longest run of visible characters
visible_cut : (a b x y : Bytes) → AllByRecursion IsVisible a → AllByRecursion IsVisible b → NoVisible x → NoVisible y
    → a ++ x ≡ b ++ y → (a ≡ b) × (x ≡ y)
visible_cut [] [] x y h k n m e = (refl, e)
visible_cut [] (c ∷ b) [] y h k n m e = cc
visible_cut [] (c ∷ b) (d ∷ x) y h k n m e = let same : d ≡ c = cc in absurd (n (rw same k.0))
visible_cut (c ∷ a) [] x [] h k n m e = cc
visible_cut (c ∷ a) [] x (d ∷ y) h k n m e = let same : d ≡ c = cc in absurd (m (rw same h.0))
visible_cut (c ∷ a) (d ∷ b) x y h k n m e = let (same, rest) = visible_cut a b x y h.1 k.1 n m cc in (cc, rest)

spaced_ends : (args : List Bytes) → NoVisible (spaced args)
spaced_ends [] = tt
spaced_ends (a ∷ args) = λ h. omega (arith, h.0)

-- an argument line has one list of arguments
pub args_once : (az bs : List Bytes) → AllByRecursion IsArgument az → AllByRecursion IsArgument bs
    → spaced az ≡ spaced bs → az ≡ bs
args_once [] [] h k e = refl
args_once [] (b ∷ bs) h k e = cc
args_once (a ∷ az) [] h k e = cc
args_once (a ∷ az) (b ∷ bs) h k e =
    let (head, tail) = visible_cut a b _ _ h.0.1 k.0.1 (spaced_ends az) (spaced_ends bs) cc in
    let rest = args_once az bs h.1 k.1 tail in
    cc

-- a line of arguments begins with an arrow
pub no_arrow : (text : Bytes) → ((x : Bytes) → text ≢ codes "->" ++ x) → SpellsNone text
no_arrow text none bs h e = none (spaced bs) (line_text text bs e)

pub parsed_none : (text rest : Bytes) → text ≡ codes "->" ++ rest → Parsed text [] rest
parsed_none text rest is = search (rules, append_cancel_left, line_text)

-- a nonempty rest that does not begin with a space and an argument: not an argument line
pub stuck_space : (text : Bytes) (az : List Bytes) (rest : Bytes) → Parsed text az rest → rest ≢ []
    → ((x : Bytes) → rest ≢ 32 ∷ x) → SpellsNone text
stuck_space text az rest p some none bs h e = let (more, _, is) = p.only bs h e in here more is
  where
    here : (more : List Bytes) → rest ≡ spaced more → ⊥
    here [] e = some e
    here (a ∷ more) e = none (a ++ spaced more) e

pub stuck_empty : (text : Bytes) (az : List Bytes) (rest tail : Bytes) → Parsed text az rest → rest ≡ 32 ∷ tail
    → NoVisible tail → SpellsNone text
stuck_empty text az rest tail p space end bs h e =
    let (more, each, is) = p.only bs h e in here more each (sym space ∙ is)
  where
    here : (more : List Bytes) → AllByRecursion IsArgument more → 32 ∷ tail ≡ spaced more → ⊥
    here [] h e = cc
    here (a ∷ more) h e =
        let (none, _) = visible_cut [] a tail _ tt h.0.1 end (spaced_ends more) cc in h.0.0 (sym none)

-- one more argument
pub parsed_more : (text : Bytes) (az : List Bytes) (rest tail w r : Bytes) → Parsed text az rest → rest ≡ 32 ∷ tail
    → tail ≡ w ++ r → w ≢ [] → AllByRecursion IsVisible w → NoVisible r → Parsed text (az ++ w ∷ []) r
parsed_more text az rest tail w r p space cut some seen end =
    let whole : rest ≡ 32 ∷ (w ++ r) = cc in
    record {
      each = All-append IsArgument az (w ∷ []) p.each ((some, seen), tt);
      spelled = p.spelled ∙ rw (whole, ← flat_map_more (32 ∷◌) [] az w, append_assoc) refl;
      only = λ bs h e. let (more, each, is) = p.only bs h e in here more each (sym whole ∙ is);
    }
  where
    here : (more : List Bytes) → AllByRecursion IsArgument more → 32 ∷ (w ++ r) ≡ spaced more
        → (rest : List Bytes) × AllByRecursion IsArgument rest × (r ≡ spaced rest)
    here [] h e = cc
    here (a ∷ more) h e =
        let (_, rest) = visible_cut w a r _ seen h.0.1 end (spaced_ends more) cc in (more, h.1, rest)

-- at the end of the line: with arguments it is an argument line, with none it is not
pub parsed_all : (text : Bytes) (az : List Bytes) → Parsed text az [] → az ≢ []
    → AreArguments az × (line text ≡ argument_line az)
parsed_all text az p some = ((some, p.each), ap line (rw append-nil at p.spelled))

pub parsed_nothing : (text : Bytes) → Parsed text [] [] → SpellsNone text
parsed_nothing text p [] h e = h.0 refl
parsed_nothing text p (b ∷ bs) h e = let is = sym p.spelled ∙ line_text text (b ∷ bs) e in cc

pub ruleset parse_steps = (no_arrow, stuck_space, stuck_empty, parsed_nothing, common_steps)
