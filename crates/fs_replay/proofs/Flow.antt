-- Bytes that go from a source and into a sink in several calls.
use Rattle.std.proofs.Common.{◌≡◌, ℕ, ◌+◌, ◌≤◌, arith, Bool, true, false, List, [], ◌∷◌, ◌++◌, length, take, drop, Option, Some, None, option_map, refl, sym, ap, subst, ◌∙◌, append_assoc}
use Rattle.std.proofs.lemmas.List.{append-nil, take-append-drop, length-take, length-append}
use Rattle.std.proofs.Math.Seq.{take-append_seam}
use Rattle.std.specs.Bool.{OnTrue, OnFalse}
use Rattle.fs_edge.specs.Source.{ReadGives}
use Rattle.fs_edge.specs.declared.source.Took.{Took}
use Rattle.fs_edge.specs.declared.source.Took.TheVariants.{Bytes, End, Failed}
use Rattle.fs_replay.specs.Moved.{Taken, TakenUpTo, Gained, GainedFront}

pub taken_nothing : (o : Option (List ℕ)) → Taken o o []
taken_nothing None = refl
taken_nothing (Some rest) = refl

-- two takings after each other are one
pub taken_more : (a b c : Option (List ℕ)) (x y : List ℕ) → Taken a b x → Taken b c y → Taken a c (x ++ y)
taken_more a b None x y p q = p ∙ ap (option_map (λ rest. x ++ rest)) q
taken_more a b (Some rest) x y p q = p ∙ ap (option_map (λ rest. x ++ rest)) q ∙ ap Some (sym (append_assoc x y rest))

pub gained_nothing : (o : Option (List ℕ)) → Gained o o []
gained_nothing None = refl
gained_nothing (Some had) = ap Some (sym (append-nil had))

-- two gains after each other are one
pub gained_more : (a b c : Option (List ℕ)) (x y : List ℕ) → Gained a b x → Gained b c y → Gained a c (x ++ y)
gained_more None b c x y p q = q ∙ ap (option_map (λ had. had ++ y)) p
gained_more (Some had) b c x y p q = q ∙ ap (option_map (λ had. had ++ y)) p ∙ ap Some (append_assoc had x y)

-- each part of nothing is nothing
pub nothing_behind : (given out total : List ℕ) → given ++ out ≡ total → total ≡ [] → out ≡ []
nothing_behind [] out total told none = told ∙ none
nothing_behind (x ∷ given) out total told none = absurd (cc)

pub nothing_between : (given out rest total : List ℕ) → given ++ (out ++ rest) ≡ total → total ≡ [] → out ≡ []
nothing_between given [] rest total told none = refl
nothing_between given (x ∷ out) rest total told none =
    let some = nothing_behind given ((x ∷ out) ++ rest) total told none in
    absurd (cc)

-- what was given so far is a front of the whole piece
pub gained_front : (a b c : Option (List ℕ)) (x rest piece : List ℕ) → Gained a b x → piece ≡ x ++ rest → c ≡ b → GainedFront a c piece
gained_front a b c x rest piece gained is same = (length x, same ∙ gained ∙ ap (λ bytes. option_map (λ had. had ++ bytes) a) (sym (ap (take (length x)) is ∙ take-append_seam x rest)))

-- whatever a read gives, what is left is an end of what was left
pub read_some : (took : Took) (buffer : List ℕ) (a b : Option (List ℕ)) → ReadGives took buffer a b → TakenUpTo (length buffer) a b
read_some (Bytes n) buffer a b h = (take n buffer, h, omega (arith, length-take n buffer))
read_some End buffer a b h = ([], subst (λ o. Taken a o []) (sym h.0) (taken_nothing a), omega arith)
read_some Failed buffer a b h = ([], subst (λ o. Taken a o []) (sym h) (taken_nothing a), omega arith)

-- some bytes after others are some bytes
pub taken_up_to_more : (a b c : Option (List ℕ)) (x : List ℕ) (room most : ℕ) → Taken a b x → TakenUpTo room b c → length x + room ≤ most → TakenUpTo most a c
taken_up_to_more a b c x room most p q fits = (x ++ q.0, taken_more a b c x q.0 p q.1, omega (arith, length-append x q.0, q.2))

-- what was gained is a front of what it begins
pub gained_as_front : (a b : Option (List ℕ)) (x more whole : List ℕ) → Gained a b x → x ++ more ≡ whole → GainedFront a b whole
gained_as_front a b x more whole gained is = gained_front a b b x more whole gained (sym is) refl

-- a front of the next piece after a gain is a front of the whole
pub gained_front_more : (a b c : Option (List ℕ)) (x piece more whole : List ℕ) → Gained a b x → GainedFront b c piece → x ++ (piece ++ more) ≡ whole → GainedFront a c whole
gained_front_more a b c x piece more whole gained part is =
    let n = part.0 in
    gained_as_front a c (x ++ take n piece) (drop n piece ++ more) whole (gained_more a b c x (take n piece) gained part.1)
    (append_assoc x (take n piece) (drop n piece ++ more) ∙ ap (λ r. x ++ r) (sym (append_assoc (take n piece) (drop n piece) more) ∙ ap (λ p. p ++ more) (take-append-drop n piece)) ∙ is)

-- the last piece makes a gain whole
pub gained_whole : (a b c : Option (List ℕ)) (x piece whole : List ℕ) → Gained a b x → x ++ piece ≡ whole → Gained b c piece → Gained a c whole
gained_whole a b c x piece whole gained is last = subst (Gained a c) is (gained_more a b c x piece gained last)

pub gained_front_whole : (a b c : Option (List ℕ)) (x piece whole : List ℕ) → Gained a b x → x ++ piece ≡ whole → GainedFront b c piece → GainedFront a c whole
gained_front_whole a b c x piece whole gained is part = gained_front_more a b c x piece [] whole gained part (ap (λ p. x ++ p) (append-nil piece) ∙ is)

pub on_true : {P Q : Type 0} (b : Bool) → (P → Q) → OnTrue b P → OnTrue b Q
on_true true f p = f p
on_true false f p = tt

pub on_false : {P Q : Type 0} (b : Bool) → (P → Q) → OnFalse b P → OnFalse b Q
on_false true f p = tt
on_false false f p = f p
