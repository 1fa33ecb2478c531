-- What holds of field paths and their texts: what is read is a field path with these names, each field path is read, and
-- a refusal tells the longest front of the text that some field path begins with.
use Rattle.std.proofs.Common.{◌≡◌, ℕ, ◌+◌, ◌<◌, Bool, true, false, cond, eqb, inl, inr, ◌⊎◌, ◌||◌, Option, Some, None, Result, Ok, Err, List, [], ◌∷◌, ◌++◌, length, take, drop, get_or, refl, ap, sym, ◌∙◌, subst, arith}
use Rattle.std.proofs.lemmas.Bool.{and_parts, false≢true}
use Rattle.std.proofs.lemmas.Bool.Decides.{eqb_tells}
use Rattle.std.proofs.lemmas.List.{append_assoc, append-nil, flat_map_more, take_more, take-take, take_all, take-append-drop}
use Rattle.std.specs.List.{list_all, flat_map}
use Rattle.std.specs.Option.{option_and_then, option_map}
use Rattle.fs_path.specs.declared.error.PathError.{PathError}
use Rattle.fs_path.specs.declared.error.PathError.TheVariants.{BadQuote}
use Rattle.fs_path.specs.declared.stage.Stage.{Stage}
use Rattle.fs_path.specs.declared.stage.Stage.TheVariants.{Opening, Simple, Quoted, Escaped, Closed}
use Rattle.fs_path.specs.FieldName.{is_name_start, is_name_byte, is_simple}
use Rattle.fs_path.specs.Field.{escaped, quoted, name_text, field_text, IsNameText, IsFieldText, BeginsField, IsLongestFront}
use Rattle.fs_path.specs.FieldReader.{Reading, stage_after, moved, step, ended, field_from, read_of, opening}
use Rattle.fs_path.proofs.FieldRuns.{run, run-append, read_run, Stuck, stuck, run_simple, run_quoted}

-- ---- each field path is read

-- a reader at the beginning of a name
abbrev pub fresh : List (List ℕ) → Reading
fresh names = record { stage = Opening; names = names; name = [] }

-- a reader behind a name that is whole
pub record Behind (names : List (List ℕ)) (name front : List ℕ) : Type 0 where
  pub stage : Stage
  pub runs : run (fresh names) front ≡ Some (record { stage = stage; names = names; name = name })
  pub ends : (stage ≡ Simple) ⊎ (stage ≡ Closed)

behind_simple : (names : List (List ℕ)) (name : List ℕ) → is_simple name ≡ true → Behind names name name
behind_simple names [] h = cc
behind_simple names (b ∷ bs) h =
    let parts = and_parts (is_name_start b) (list_all is_name_byte bs) h in
    elim (eqb_tells b 96) [
      | inl tick ↦ absurd (false≢true (ap is_name_start (sym tick.1) ∙ parts.0))
      | inr other ↦ record { stage = Simple; runs = rw (other.0, parts.0) (run_simple names (b ∷ []) bs parts.1); ends = inl refl }
    ]

behind_quoted : (names : List (List ℕ)) (name : List ℕ) → Behind names name (quoted name)
behind_quoted names name = record {
  stage = Closed;
  runs = run-append (record { stage = Quoted; names = names; name = [] }) (flat_map escaped name) (96 ∷ []) ∙ ap (option_and_then (λ q. run q (96 ∷ []))) (run_quoted names [] name);
  ends = inr refl;
}

pub behind : (names : List (List ℕ)) (name front : List ℕ) → IsNameText name front → Behind names name front
behind names name front h = elim h [
  | inl simple ↦ subst (λ t. Behind names name t) (sym simple.1) (behind_simple names name simple.0)
  | inr quotes ↦ subst (λ t. Behind names name t) (sym quotes) (behind_quoted names name)
]

-- a dot behind it makes the name whole
dot_at : (stage : Stage) (names : List (List ℕ)) (name : List ℕ) → (stage ≡ Simple) ⊎ (stage ≡ Closed) → step (record { stage = stage; names = names; name = name }) 46 ≡ Some (fresh (names ++ name ∷ []))
dot_at stage names name ends = elim ends [
  | inl simple ↦ subst (λ s. step (record { stage = s; names = names; name = name }) 46 ≡ Some (fresh (names ++ name ∷ []))) (sym simple) refl
  | inr closed ↦ subst (λ s. step (record { stage = s; names = names; name = name }) 46 ≡ Some (fresh (names ++ name ∷ []))) (sym closed) refl
]

end_at : (stage : Stage) (names : List (List ℕ)) (at : ℕ) → (stage ≡ Simple) ⊎ (stage ≡ Closed) → ended stage names at ≡ Ok names
end_at stage names at ends = elim ends [
  | inl simple ↦ subst (λ s. ended s names at ≡ Ok names) (sym simple) refl
  | inr closed ↦ subst (λ s. ended s names at ≡ Ok names) (sym closed) refl
]

-- a reader behind a whole field path
pub record Through (before names : List (List ℕ)) (text : List ℕ) : Type 0 where
  pub reader : Reading
  pub runs : run (fresh before) text ≡ Some reader
  pub ends : (reader.stage ≡ Simple) ⊎ (reader.stage ≡ Closed)
  pub names_are : reader.names ++ reader.name ∷ [] ≡ before ++ names

pub through : (before names : List (List ℕ)) (text : List ℕ) → IsFieldText names text → Through before names text
through before [] text h = absurd h
through before (name ∷ []) text h =
    let b = behind before name text h in
    record { reader = record { stage = b.stage; names = before; name = name }; runs = b.runs; ends = b.ends; names_are = refl }
through before (name ∷ next ∷ names) text h =
    let front = h.0 in
    let rest = h.1 in
    let b = behind before name front h.2 in
    let t = through (before ++ name ∷ []) (next ∷ names) rest h.4 in
    let whole : run (fresh before) (front ++ 46 ∷ rest) ≡ Some t.reader =
    run-append (fresh before) front (46 ∷ rest)
    ∙ (ap (option_and_then (λ q. run q (46 ∷ rest))) b.runs
    ∙ (ap (option_and_then (λ q. run q rest)) (dot_at b.stage before name b.ends) ∙ t.runs)) in
    record { reader = t.reader; runs = ap (run (fresh before)) h.3 ∙ whole; ends = t.ends; names_are = t.names_are ∙ append_assoc before (name ∷ []) (next ∷ names) }

pub read_only : (text : List ℕ) (names : List (List ℕ)) → IsFieldText names text → read_of text ≡ Ok names
read_only text names h =
    let t = through [] names text h in
    let all = read_run opening t.reader 0 text [] t.runs in
    ap (field_from opening 0) (sym (append-nil text)) ∙ (all ∙ (end_at t.reader.stage (t.reader.names ++ t.reader.name ∷ []) (0 + length text) t.ends ∙ ap Ok t.names_are))

-- ---- what a reader has read

-- the text so far is these names, each with a dot behind it
abbrev pub IsDotted : List (List ℕ) → List ℕ → Type 0
IsDotted names text = (more : List (List ℕ)) (rest : List ℕ) → IsFieldText more rest → IsFieldText (names ++ more) (text ++ rest)

-- the text so far of the name that a reader is in
abbrev pub IsPart : Stage → List ℕ → List ℕ → Type 0
IsPart Opening name part = (part ≡ []) × (name ≡ [])
IsPart Simple name part = (part ≡ name) × (is_simple name ≡ true)
IsPart Quoted name part = part ≡ 96 ∷ flat_map escaped name
IsPart Escaped name part = part ≡ 96 ∷ (flat_map escaped name ++ 92 ∷ [])
IsPart Closed name part = part ≡ quoted name

pub record HasRead (r : Reading) (text : List ℕ) : Type 0 where
  pub before : List ℕ
  pub part : List ℕ
  pub text_is : text ≡ before ++ part
  pub dotted : IsDotted r.names before
  pub part_is : IsPart r.stage r.name part

dotted_none : IsDotted [] []
dotted_none more rest h = h

dotted_more : (names : List (List ℕ)) (name before part : List ℕ) → IsDotted names before → IsNameText name part → IsDotted (names ++ name ∷ []) (before ++ (part ++ 46 ∷ []))
dotted_more names name before part d n [] rest h = absurd h
dotted_more names name before part d n (m ∷ ms) rest h =
    let whole : IsFieldText (names ++ name ∷ m ∷ ms) (before ++ (part ++ 46 ∷ rest)) = d (name ∷ m ∷ ms) (part ++ 46 ∷ rest) (part, rest, n, refl, h) in
    let text : before ++ (part ++ 46 ∷ rest) ≡ (before ++ (part ++ 46 ∷ [])) ++ rest = sym (append_assoc before (part ++ 46 ∷ []) rest ∙ ap (λ t. before ++ t) (append_assoc part (46 ∷ []) rest)) in
    subst (λ ns. IsFieldText ns ((before ++ (part ++ 46 ∷ [])) ++ rest)) (sym (append_assoc names (name ∷ []) (m ∷ ms))) (subst (λ t. IsFieldText (names ++ name ∷ m ∷ ms) t) text whole)

-- one byte more in the name that a reader is in
grows : (r : Reading) (stage : Stage) (name text : List ℕ) (b : ℕ) → (h : HasRead r text) → IsPart stage name (h.part ++ b ∷ []) → HasRead (record { stage = stage; names = r.names; name = name }) (text ++ b ∷ [])
grows r stage name text b h p = record {
  before = h.before;
  part = h.part ++ b ∷ [];
  text_is = ap (λ t. t ++ b ∷ []) h.text_is ∙ append_assoc h.before h.part (b ∷ []);
  dotted = h.dotted;
  part_is = p;
}

-- a dot behind it
dots : (r : Reading) (text : List ℕ) (b : ℕ) → (h : HasRead r text) → b ≡ 46 → IsNameText r.name h.part → HasRead (fresh (r.names ++ r.name ∷ [])) (text ++ b ∷ [])
dots r text b h e n = record {
  before = h.before ++ (h.part ++ 46 ∷ []);
  part = [];
  text_is = ap (λ t. t ++ b ∷ []) h.text_is ∙ (ap (λ x. (h.before ++ h.part) ++ x ∷ []) e ∙ (append_assoc h.before h.part (46 ∷ []) ∙ sym (append-nil (h.before ++ (h.part ++ 46 ∷ [])))));
  dotted = dotted_more r.names r.name h.before h.part h.dotted n;
  part_is = (refl, refl);
}

all_more : (bs : List ℕ) (b : ℕ) → list_all is_name_byte bs ≡ true → is_name_byte b ≡ true → list_all is_name_byte (bs ++ b ∷ []) ≡ true
all_more [] b h k = rw k refl
all_more (x ∷ bs) b h k = let parts = and_parts (is_name_byte x) (list_all is_name_byte bs) h in rw (parts.0, all_more bs b parts.1 k) refl

simple_more : (name : List ℕ) (b : ℕ) → is_simple name ≡ true → is_name_byte b ≡ true → is_simple (name ++ b ∷ []) ≡ true
simple_more [] b h k = cc
simple_more (x ∷ bs) b h k = let parts = and_parts (is_name_start x) (list_all is_name_byte bs) h in rw (parts.0, all_more bs b parts.1 k) refl

simple_one : (b : ℕ) → is_name_start b ≡ true → is_simple (b ∷ []) ≡ true
simple_one b h = rw h refl

pub escaped_more : (name : List ℕ) (b : ℕ) → flat_map escaped (name ++ b ∷ []) ≡ flat_map escaped name ++ escaped b
escaped_more name b = sym (flat_map_more escaped [] name b)

pub plain : (b : ℕ) → eqb b 96 ≡ false → eqb b 92 ≡ false → escaped b ≡ b ∷ []
plain b h k = rw (h, k) refl

pub marked : (b : ℕ) → (eqb b 96 || eqb b 92) ≡ true → escaped b ≡ 92 ∷ b ∷ []
marked b h = rw h refl

either : (b : Bool) → (b ≡ true) ⊎ (b ≡ false)
either true = inl refl
either false = inr refl

-- where a reader goes on by a byte from each stage; after is what the byte leads to
abbrev pub After : Reading → Stage → ℕ → Reading → Type 0
After r stage b q = option_map (moved (record { stage = stage; names = r.names; name = r.name }) b) (stage_after stage b) ≡ Some q

from_opening : (r q : Reading) (text : List ℕ) (b : ℕ) (h : HasRead r text) → IsPart Opening r.name h.part → After r Opening b q → HasRead q (text ++ b ∷ [])
from_opening r q text b h p k = elim (eqb_tells b 96) [
  | inl tick ↦
      let goes : Some (record { stage = Quoted; names = r.names; name = r.name }) ≡ Some q = rw tick.0 at k in
      let is : record { stage = Quoted; names = r.names; name = r.name } ≡ q = cc in
      let part : h.part ++ b ∷ [] ≡ 96 ∷ flat_map escaped r.name = rw (p.0, p.1, tick.1) refl in
      subst (λ x. HasRead x (text ++ b ∷ [])) is (grows r Quoted r.name text b h part)
  | inr other ↦ elim (either (is_name_start b)) [
    | inl start ↦
        let goes : Some (record { stage = Simple; names = r.names; name = r.name ++ b ∷ [] }) ≡ Some q = rw (other.0, start) at k in
        let is : record { stage = Simple; names = r.names; name = r.name ++ b ∷ [] } ≡ q = cc in
        let part : h.part ++ b ∷ [] ≡ r.name ++ b ∷ [] = rw (p.0, p.1) refl in
        let simple : is_simple (r.name ++ b ∷ []) ≡ true = ap (λ n. is_simple (n ++ b ∷ [])) p.1 ∙ simple_one b start in
        subst (λ x. HasRead x (text ++ b ∷ [])) is (grows r Simple (r.name ++ b ∷ []) text b h (part, simple))
    | inr stops ↦ let none : None ≡ Some q = rw (other.0, stops) at k in cc
  ]
]

from_simple : (r q : Reading) (text : List ℕ) (b : ℕ) (h : HasRead r text) → IsPart Simple r.name h.part → After r Simple b q → HasRead q (text ++ b ∷ [])
from_simple r q text b h p k = elim (eqb_tells b 46) [
  | inl dot ↦
      let goes : Some (fresh (r.names ++ r.name ∷ [])) ≡ Some q = rw dot.0 at k in
      let is : fresh (r.names ++ r.name ∷ []) ≡ q = cc in
      subst (λ x. HasRead x (text ++ b ∷ [])) is (dots r text b h dot.1 (inl (p.1, p.0)))
  | inr other ↦ elim (either (is_name_byte b)) [
    | inl more ↦
        let goes : Some (record { stage = Simple; names = r.names; name = r.name ++ b ∷ [] }) ≡ Some q = rw (other.0, more) at k in
        let is : record { stage = Simple; names = r.names; name = r.name ++ b ∷ [] } ≡ q = cc in
        subst (λ x. HasRead x (text ++ b ∷ [])) is (grows r Simple (r.name ++ b ∷ []) text b h (ap (λ t. t ++ b ∷ []) p.0, simple_more r.name b p.1 more))
    | inr stops ↦ let none : None ≡ Some q = rw (other.0, stops) at k in cc
  ]
]

from_quoted : (r q : Reading) (text : List ℕ) (b : ℕ) (h : HasRead r text) → IsPart Quoted r.name h.part → After r Quoted b q → HasRead q (text ++ b ∷ [])
from_quoted r q text b h p k = elim (eqb_tells b 96) [
  | inl tick ↦
      let goes : Some (record { stage = Closed; names = r.names; name = r.name }) ≡ Some q = rw tick.0 at k in
      let is : record { stage = Closed; names = r.names; name = r.name } ≡ q = cc in
      let part : h.part ++ b ∷ [] ≡ quoted r.name = rw (p, tick.1) refl in
      subst (λ x. HasRead x (text ++ b ∷ [])) is (grows r Closed r.name text b h part)
  | inr other ↦ elim (eqb_tells b 92) [
    | inl slash ↦
        let goes : Some (record { stage = Escaped; names = r.names; name = r.name }) ≡ Some q = rw (other.0, slash.0) at k in
        let is : record { stage = Escaped; names = r.names; name = r.name } ≡ q = cc in
        let part : h.part ++ b ∷ [] ≡ 96 ∷ (flat_map escaped r.name ++ 92 ∷ []) = rw (p, slash.1) refl in
        subst (λ x. HasRead x (text ++ b ∷ [])) is (grows r Escaped r.name text b h part)
    | inr neither ↦
        let goes : Some (record { stage = Quoted; names = r.names; name = r.name ++ b ∷ [] }) ≡ Some q = rw (other.0, neither.0) at k in
        let is : record { stage = Quoted; names = r.names; name = r.name ++ b ∷ [] } ≡ q = cc in
        let part : h.part ++ b ∷ [] ≡ 96 ∷ flat_map escaped (r.name ++ b ∷ []) = rw (p, escaped_more r.name b, plain b other.0 neither.0) refl in
        subst (λ x. HasRead x (text ++ b ∷ [])) is (grows r Quoted (r.name ++ b ∷ []) text b h part)
  ]
]

from_escaped : (r q : Reading) (text : List ℕ) (b : ℕ) (h : HasRead r text) → IsPart Escaped r.name h.part → After r Escaped b q → HasRead q (text ++ b ∷ [])
from_escaped r q text b h p k = elim (either (eqb b 96 || eqb b 92)) [
  | inl mark ↦
      let goes : Some (record { stage = Quoted; names = r.names; name = r.name ++ b ∷ [] }) ≡ Some q = rw mark at k in
      let is : record { stage = Quoted; names = r.names; name = r.name ++ b ∷ [] } ≡ q = cc in
      let joined : (flat_map escaped r.name ++ 92 ∷ []) ++ b ∷ [] ≡ flat_map escaped r.name ++ 92 ∷ b ∷ [] = append_assoc (flat_map escaped r.name) (92 ∷ []) (b ∷ []) in
      let part : h.part ++ b ∷ [] ≡ 96 ∷ flat_map escaped (r.name ++ b ∷ []) = rw (p, joined, escaped_more r.name b, marked b mark) refl in
      subst (λ x. HasRead x (text ++ b ∷ [])) is (grows r Quoted (r.name ++ b ∷ []) text b h part)
  | inr stops ↦ let none : None ≡ Some q = rw stops at k in cc
]

from_closed : (r q : Reading) (text : List ℕ) (b : ℕ) (h : HasRead r text) → IsPart Closed r.name h.part → After r Closed b q → HasRead q (text ++ b ∷ [])
from_closed r q text b h p k = elim (eqb_tells b 46) [
  | inl dot ↦
      let goes : Some (fresh (r.names ++ r.name ∷ [])) ≡ Some q = rw dot.0 at k in
      let is : fresh (r.names ++ r.name ∷ []) ≡ q = cc in
      subst (λ x. HasRead x (text ++ b ∷ [])) is (dots r text b h dot.1 (inr p))
  | inr other ↦ let none : None ≡ Some q = rw other.0 at k in cc
]

has_read_more : (stage : Stage) (names : List (List ℕ)) (name text : List ℕ) (b : ℕ) (q : Reading) → HasRead (record { stage = stage; names = names; name = name }) text → step (record { stage = stage; names = names; name = name }) b ≡ Some q → HasRead q (text ++ b ∷ [])
has_read_more Opening names name text b q h k = from_opening (record { stage = Opening; names = names; name = name }) q text b h h.part_is k
has_read_more Simple names name text b q h k = from_simple (record { stage = Simple; names = names; name = name }) q text b h h.part_is k
has_read_more Quoted names name text b q h k = from_quoted (record { stage = Quoted; names = names; name = name }) q text b h h.part_is k
has_read_more Escaped names name text b q h k = from_escaped (record { stage = Escaped; names = names; name = name }) q text b h h.part_is k
has_read_more Closed names name text b q h k = from_closed (record { stage = Closed; names = names; name = name }) q text b h h.part_is k

has_read_at : (r q : Reading) (text : List ℕ) (b : ℕ) (bs : List ℕ) (o : Option Reading) → step r b ≡ o → HasRead r text → ((p : Reading) → HasRead p (text ++ b ∷ []) → run p bs ≡ Some q → HasRead q ((text ++ b ∷ []) ++ bs)) → option_and_then (λ p. run p bs) o ≡ Some q → HasRead q (text ++ b ∷ bs)
has_read_at r q text b bs None e h more k = cc
has_read_at r q text b bs (Some p) e h more k =
    subst (λ t. HasRead q t) (append_assoc text (b ∷ []) bs) (more p (has_read_more r.stage r.names r.name text b p h e) k)

pub has_read : (r q : Reading) (text bs : List ℕ) → HasRead r text → run r bs ≡ Some q → HasRead q (text ++ bs)
has_read r q text [] h k = let same : r ≡ q = cc in subst (λ t. HasRead q t) (sym (append-nil text)) (subst (λ x. HasRead x text) same h)
has_read r q text (b ∷ bs) h k = has_read_at r q text b bs (step r b) refl h (λ p g l. has_read p q (text ++ b ∷ []) bs g l) k

pub read_all : (q : Reading) (text : List ℕ) → run opening text ≡ Some q → HasRead q text
read_all q text h = has_read opening q [] text (record { before = []; part = []; text_is = refl; dotted = dotted_none; part_is = (refl, refl) }) h

-- ---- what was read is a field path at its end, and begins one anywhere

name_at : (stage : Stage) (name part : List ℕ) → (stage ≡ Simple) ⊎ (stage ≡ Closed) → IsPart stage name part → IsNameText name part
name_at Simple name part e p = inl (p.1, p.0)
name_at Closed name part e p = inr p
name_at Opening name part e p = elim e [ inl h ↦ cc | inr h ↦ cc ]
name_at Quoted name part e p = elim e [ inl h ↦ cc | inr h ↦ cc ]
name_at Escaped name part e p = elim e [ inl h ↦ cc | inr h ↦ cc ]

pub is_field : (q : Reading) (text : List ℕ) → HasRead q text → (q.stage ≡ Simple) ⊎ (q.stage ≡ Closed) → IsFieldText (q.names ++ q.name ∷ []) text
is_field q text h e = subst (λ t. IsFieldText (q.names ++ q.name ∷ []) t) (sym h.text_is) (h.dotted (q.name ∷ []) h.part (name_at q.stage q.name h.part e h.part_is))

-- each part of a name goes on to a name
record GoesOn (part : List ℕ) : Type 0 where
  name : List ℕ
  rest : List ℕ
  whole : IsNameText name (part ++ rest)

part_goes_on : (stage : Stage) (name part : List ℕ) → IsPart stage name part → GoesOn part
part_goes_on Opening name part p = record { name = 97 ∷ []; rest = 97 ∷ []; whole = inl (refl, ap (λ t. t ++ 97 ∷ []) p.0) }
part_goes_on Simple name part p = record { name = name; rest = []; whole = inl (p.1, append-nil part ∙ p.0) }
part_goes_on Quoted name part p = record { name = name; rest = 96 ∷ []; whole = inr (ap (λ t. t ++ 96 ∷ []) p) }
part_goes_on Escaped name part p =
    let flat = flat_map escaped name in
    let front : (flat ++ 92 ∷ []) ++ 96 ∷ 96 ∷ [] ≡ (flat ++ 92 ∷ 96 ∷ []) ++ 96 ∷ [] = append_assoc flat (92 ∷ []) (96 ∷ 96 ∷ []) ∙ sym (append_assoc flat (92 ∷ 96 ∷ []) (96 ∷ [])) in
    record { name = name ++ 96 ∷ []; rest = 96 ∷ 96 ∷ []; whole = inr (ap (λ t. t ++ 96 ∷ 96 ∷ []) p ∙ (ap (λ t. 96 ∷ t) front ∙ ap (λ t. 96 ∷ (t ++ 96 ∷ [])) (sym (escaped_more name 96)))) }
part_goes_on Closed name part p = record { name = name; rest = []; whole = inr (append-nil part ∙ p) }

pub begins_field : (q : Reading) (text : List ℕ) → HasRead q text → BeginsField text
begins_field q text h =
    let g = part_goes_on q.stage q.name h.part h.part_is in
    let text_is : h.before ++ (h.part ++ g.rest) ≡ text ++ g.rest = sym (ap (λ t. t ++ g.rest) h.text_is ∙ append_assoc h.before h.part g.rest) in
    (q.names ++ g.name ∷ [], g.rest, subst (λ t. IsFieldText (q.names ++ g.name ∷ []) t) text_is (h.dotted (g.name ∷ []) (h.part ++ g.rest) g.whole))

-- a front on which a reader doesn't go on begins no field path
never_begins : (front more : List ℕ) → run opening front ≡ None → BeginsField (front ++ more) → ⊥
never_begins front more h b =
    let t = through [] b.0 ((front ++ more) ++ b.1) b.2 in
    let cut : run opening ((front ++ more) ++ b.1) ≡ None = ap (run opening) (append_assoc front more b.1) ∙ (run-append opening front (more ++ b.1) ∙ ap (option_and_then (λ q. run q (more ++ b.1))) h) in
    let both : None ≡ Some t.reader = sym cut ∙ t.runs in
    cc

-- ---- what a refusal tells

-- one byte more than a reader gets on
stops_at : (text : List ℕ) (s : Stuck opening 0 text) → run opening (take (s.count + 1) text) ≡ None
stops_at text s =
    ap (run opening) (take_more text s.count 0 s.within)
    ∙ (run-append opening (take s.count text) (get_or text s.count 0 ∷ [])
    ∙ (ap (option_and_then (λ q. run q (get_or text s.count 0 ∷ []))) s.runs
    ∙ ap (option_and_then (λ q. run q [])) s.fails))

stuck_front : (text : List ℕ) (s : Stuck opening 0 text) → IsLongestFront text s.count
stuck_front text s = record {
  within = omega (arith, s.within);
  begins = begins_field s.reader (take s.count text) (read_all s.reader (take s.count text) s.runs);
  longest = λ n more within b.
      let cut : take (s.count + 1) text ++ drop (s.count + 1) (take n text) ≡ take n text =
      ap (λ t. t ++ drop (s.count + 1) (take n text)) (sym (take-take (s.count + 1) n text (omega arith))) ∙ take-append-drop (s.count + 1) (take n text) in
      never_begins (take (s.count + 1) text) (drop (s.count + 1) (take n text)) (stops_at text s) (subst BeginsField (sym cut) b);
}

whole_front : (text : List ℕ) (q : Reading) → run opening text ≡ Some q → IsLongestFront text (length text)
whole_front text q h = record {
  within = omega arith;
  begins = subst BeginsField (sym (take_all (length text) text (omega arith))) (begins_field q text (read_all q text h));
  longest = λ n more within b. absurd (omega arith);
}

-- how a run ends: it reads names, or is refused
abbrev pub Verdict : List ℕ → Result (List (List ℕ)) PathError → Type 0
Verdict text (Ok names) = IsFieldText names text
Verdict text (Err e) = (at : ℕ) × (e ≡ BadQuote at) × IsLongestFront text at

ended_verdict : (stage : Stage) (names : List (List ℕ)) (name text : List ℕ) → run opening text ≡ Some (record { stage = stage; names = names; name = name }) → Verdict text (ended stage (names ++ name ∷ []) (length text))
ended_verdict Opening names name text h = (length text, refl, whole_front text (record { stage = Opening; names = names; name = name }) h)
ended_verdict Simple names name text h = let q : Reading = record { stage = Simple; names = names; name = name } in is_field q text (read_all q text h) (inl refl)
ended_verdict Quoted names name text h = (length text, refl, whole_front text (record { stage = Quoted; names = names; name = name }) h)
ended_verdict Escaped names name text h = (length text, refl, whole_front text (record { stage = Escaped; names = names; name = name }) h)
ended_verdict Closed names name text h = let q : Reading = record { stage = Closed; names = names; name = name } in is_field q text (read_all q text h) (inr refl)

verdict_at : (text : List ℕ) (o : Option Reading) → run opening text ≡ o → Verdict text (read_of text)
verdict_at text None h =
    let s = stuck opening 0 text h in
    let zero : 0 + s.count ≡ s.count = omega arith in
    subst (λ r. Verdict text r) (sym s.says) (s.count, ap BadQuote zero, stuck_front text s)
verdict_at text (Some q) h =
    let zero : 0 + length text ≡ length text = omega arith in
    let all : read_of text ≡ ended q.stage (q.names ++ q.name ∷ []) (length text) =
    ap (field_from opening 0) (sym (append-nil text)) ∙ (read_run opening q 0 text [] h ∙ ap (ended q.stage (q.names ++ q.name ∷ [])) zero) in
    subst (λ r. Verdict text r) (sym all) (ended_verdict q.stage q.names q.name text h)

pub read_verdict : (text : List ℕ) → Verdict text (read_of text)
read_verdict text = verdict_at text (run opening text) refl

pub read_found : (text : List ℕ) (names : List (List ℕ)) → read_of text ≡ Ok names → IsFieldText names text
read_found text names h = subst (λ r. Verdict text r) h (read_verdict text)

pub read_refused : (text : List ℕ) (e : PathError) → read_of text ≡ Err e → (at : ℕ) × (e ≡ BadQuote at) × IsLongestFront text at
read_refused text e h = subst (λ r. Verdict text r) h (read_verdict text)

-- ---- what is printed is read back

pub some_names : (names : List (List ℕ)) (text : List ℕ) → IsFieldText names text → 0 < length names
some_names [] text h = absurd h
some_names (name ∷ names) text h = omega arith

name_is_text : (name : List ℕ) → IsNameText name (name_text name)
name_is_text name = elim (either (is_simple name)) [
  | inl simple ↦ inl (simple, ap (λ b. cond b name (quoted name)) simple)
  | inr other ↦ inr (ap (λ b. cond b name (quoted name)) other)
]

pub field_is_text : (names : List (List ℕ)) → 0 < length names → IsFieldText names (field_text names)
field_is_text [] h = absurd (omega arith)
field_is_text (name ∷ []) h = name_is_text name
field_is_text (name ∷ next ∷ names) h = (name_text name, field_text (next ∷ names), name_is_text name, refl, field_is_text (next ∷ names) (omega arith))

pub read_again : (names : List (List ℕ)) → 0 < length names → read_of (field_text names) ≡ Ok names
read_again names h = read_only (field_text names) names (field_is_text names h)
