use Rattle.age_header.proofs.Common.{◌≡◌, ◌≢◌, ◌∙◌, List, ℕ, [], ◌∷◌, ◌++◌, map, length, take, drop, sym, ap, arith, take-append-drop, length-take, Global, String, map_push, string_bytes, Bytes}
use Rattle.age_header.proofs.ArgumentsLemmas.{parsed_more}
use Rattle.age_header.proofs.arguments.Arguments.parse.Goals as goal

pub loop-rest-preserved : goal.loop-rest-preserved
loop-rest-preserved c =
    let tail : Bytes = c.in-Some-strip_prefix.tail.now in
    let len : ℕ = c.visible_len-len.result in
    let w : Bytes = take len tail in
    let some : w ≢ [] = λ e. absurd (let short : length w ≡ 0 = ap length e in let size = length-take len tail in
    omega (arith, c.visible_len-len.ensures.bound)) in
    let az = map string_bytes c.loop-rest.texts.items in
    let more = parsed_more c.args.text.now az c.loop-rest.rest.now tail w (drop len tail) c.loop-rest.invariant
    c.in-Some-strip_prefix.ensures
    (sym (take-append-drop len tail)) some c.visible_len-len.ensures.prefix c.visible_len-len.ensures.rest in
    let texts : map string_bytes c.push.new.self.items ≡ map string_bytes c.loop-rest.texts.items ++ w ∷ [] =
    ap (λ (x : List (String Global)). map string_bytes x) c.in_ok-push.ensures.items
    ∙ map_push string_bytes c.loop-rest.texts.items c.in_ok-visible_string.field-0
    ∙ ap (λ (x : Bytes). az ++ x ∷ [])
    (c.in_ok-visible_string.ensures ∙ c.split_at.ensures.front) in
    rw (texts, c.split_at.ensures.back) more
