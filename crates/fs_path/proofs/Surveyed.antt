-- What was gathered of ids id by id is what is found of them.
use Rattle.std.proofs.Common.{◌≡◌, ℕ, ◌+◌, Bool, true, false, cond, ◌&&◌, ◌||◌, Option, Some, None, List, [], ◌∷◌, length, is_none, refl, ap, sym, ◌∙◌, arith}
use Rattle.std.proofs.Math.Bool.{or_assoc, or-false}
use Rattle.std.specs.List.{list_any, find}
use Rattle.std.specs.Option.{option_or, option_map}
use Rattle.fs_path.specs.Segment.{is_empty, is_reserved, is_dots, is_long}
use Rattle.fs_path.specs.Findings.{Findings, findings}
use Rattle.fs_path.specs.Survey.{noted, before_all}

-- after all the ids
abbrev pub surveyed : Findings → List (List ℕ) → Findings
surveyed s [] = s
surveyed s (id ∷ ids) = surveyed (noted s id) ids

-- what each part of it says of the ids
surveyed-empty : (s : Findings) (ids : List (List ℕ)) → (surveyed s ids).empty ≡ (s.empty || list_any is_empty ids)
surveyed-empty s [] = sym (or-false s.empty)
surveyed-empty s (id ∷ ids) = surveyed-empty (noted s id) ids ∙ or_assoc s.empty (is_empty id) (list_any is_empty ids)

surveyed-reserved : (s : Findings) (ids : List (List ℕ)) → (surveyed s ids).reserved ≡ (s.reserved || list_any is_reserved ids)
surveyed-reserved s [] = sym (or-false s.reserved)
surveyed-reserved s (id ∷ ids) = surveyed-reserved (noted s id) ids ∙ or_assoc s.reserved (is_reserved id) (list_any is_reserved ids)

surveyed-dots : (s : Findings) (ids : List (List ℕ)) → (surveyed s ids).dots ≡ (s.dots || list_any is_dots ids)
surveyed-dots s [] = sym (or-false s.dots)
surveyed-dots s (id ∷ ids) = surveyed-dots (noted s id) ids ∙ or_assoc s.dots (is_dots id) (list_any is_dots ids)

surveyed-count : (s : Findings) (ids : List (List ℕ)) → (surveyed s ids).count ≡ s.count + length ids
surveyed-count s [] = omega arith
surveyed-count s (id ∷ ids) = omega (arith, surveyed-count (noted s id) ids)

long_after : (o : Option ℕ) (n : ℕ) (b : Bool) (found : Option (List ℕ)) (id : List ℕ) → length id ≡ n → option_or (cond (b && is_none o) (Some n) o) (option_map length found) ≡ option_or o (option_map length (cond b (Some id) found))
long_after None n true found id e = ap Some (sym e)
long_after None n false found id e = refl
long_after (Some m) n true found id e = refl
long_after (Some m) n false found id e = refl

surveyed-long : (s : Findings) (ids : List (List ℕ)) → (surveyed s ids).long ≡ option_or s.long (option_map length (find is_long ids))
surveyed-long s [] = or_none s.long
  where
    or_none : (o : Option ℕ) → o ≡ option_or o None
    or_none None = refl
    or_none (Some n) = refl
surveyed-long s (id ∷ ids) = surveyed-long (noted s id) ids ∙ long_after s.long (length id) (is_long id) (find is_long ids) id refl

pub surveyed_all : (ids : List (List ℕ)) → surveyed before_all ids ≡ findings ids
surveyed_all ids =
    let count : (surveyed before_all ids).count ≡ length ids = omega (arith, surveyed-count before_all ids) in
    λ i. record {
      count = count i;
      empty = surveyed-empty before_all ids i;
      reserved = surveyed-reserved before_all ids i;
      dots = surveyed-dots before_all ids i;
      long = surveyed-long before_all ids i;
    }
