-- The laws of queries: what follows for whoever reads an answer. Each is shown by a public call.
use Rattle.std.specs.Prelude.{◌≡◌, ℕ, ℤ, pos, IsTrue, false, ◌↔◌, ◌⊎◌, List, [], ◌∷◌, ◌++◌, Option, Some, None, map, take, unwrap_or}
use Rattle.std.specs.FinMap.{is_sorted}
use Rattle.std.specs.List.{Contains, list_any, starts_with}
use Rattle.std.specs.List.Sorted.{IsStrictlySortedBy}
use Rattle.std.specs.Ordering.{on}
use Rattle.fs_path.specs.NameOrder.{name_cmp}
use Rattle.fs_path.specs.TextOrder.{ids_cmp, text_eq}
use Rattle.fs_path.specs.declared.field.FieldPath.{FieldPath}
use Rattle.fs_value.specs.Data.{Data, null}
use Rattle.fs_value.specs.FieldPaths.{get_fields, map_of, IsApart}
use Rattle.fs_value.specs.Named.{by_name}
use Rattle.fs_value.specs.Ordered.{is_ordered}
use Rattle.fs_value.specs.declared.document.Document.{Document}
use Rattle.fs_query.specs.Answer.{IsAnswer, count_of}
use Rattle.fs_query.specs.AnswerTo.{answer_to}
use Rattle.fs_query.specs.Asked.{Asked}
use Rattle.fs_query.specs.Condition.{Condition, compared}
use Rattle.fs_query.specs.Field.{value_at}
use Rattle.fs_query.specs.Fits.{fits, meets}
use Rattle.fs_query.specs.Normal.{inequality_paths, joins, joining, whole_order, disjuncts}
use Rattle.fs_query.specs.Project.{projected}
use Rattle.fs_query.specs.declared.order.Order.{Order}
use Rattle.fs_query.specs.declared.op.Op.TheVariants.{NotEqual, NotIn}

-- ---- answers

-- there is no more than one answer
abbrev pub OneAnswer : Type 0
OneAnswer = (q : Asked) (docs a b : List Document) → IsAnswer q docs a → IsAnswer q docs b → a ≡ b

-- over documents whose names rise there is one: this
abbrev pub SomeAnswer : Type 0
SomeAnswer = (q : Asked) (docs : List Document) → IsTrue (is_sorted name_cmp (by_name docs)) → IsAnswer q docs (answer_to q docs)

-- what is answered is among the documents, and fits
abbrev pub AnswersFit : Type 0
AnswersFit = (q : Asked) (docs a : List Document) (d : Document) → IsAnswer q docs a → Contains a d → Contains docs d × IsTrue (fits q d)

-- a document is answered once, however many disjuncts it meets
abbrev pub AnsweredOnce : Type 0
AnsweredOnce = (q : Asked) (docs front back : List Document) (d : Document) → IsAnswer q docs (front ++ d ∷ back) → ¬ Contains front d × ¬ Contains back d

-- a document that doesn't fit changes no answer
abbrev pub OthersDoNotCount : Type 0
OthersDoNotCount = (q : Asked) (front back a : List Document) (d : Document) → fits q d ≡ false → IsAnswer q (front ++ back) a ↔ IsAnswer q (front ++ d ∷ back) a

-- with a limit the answer begins the one without
abbrev pub LimitTakes : Type 0
LimitTakes = (q : Asked) (docs a : List Document) (n : ℤ) → IsAnswer (record q { limit = None }) docs a → IsAnswer (record q { limit = Some n }) docs (take (count_of n) a)

-- the values of a document at the fields of an order. One that fits has them all
abbrev pub values_of : List Order → Document → List Data
values_of os d = map (λ o. unwrap_or (value_at o.path d) null) os

-- the query from behind a document on
abbrev pub behind : Asked → Document → Asked
behind q d = record q { start = Some (record { values = values_of (whole_order q) d; before = false }); offset = pos 0 }

-- `startAt` at the last document of a page, and not before, goes on where the page ended
abbrev pub PagesGoOn : Type 0
PagesGoOn = (q : Asked) (docs front back : List Document) (d : Document) → q.limit ≡ None → IsAnswer q docs (front ++ d ∷ back) → IsAnswer (behind q d) docs back

-- ---- filters

-- the query with one of its disjuncts for its filter, and its own whole order
abbrev pub narrowed : Asked → Condition → Asked
narrowed q c = record q { filter = c; orders = whole_order q }

-- a document fits exactly where it fits one of the disjuncts
abbrev pub FitsADisjunct : Type 0
FitsADisjunct = (q : Asked) (d : Document) → fits q d ≡ list_any (λ c. fits (narrowed q c) d) (disjuncts q.filter)

-- the paths that join the order rise, name by name and each name by bytes
abbrev pub JoiningRise : Type 0
JoiningRise = (q : Asked) → IsStrictlySortedBy (on (λ p. p.parts) ids_cmp) (joining q)

-- they are exactly the fields of inequalities that aren't ordered already, the name aside
abbrev pub JoiningAreUnordered : Type 0
JoiningAreUnordered = (q : Asked) (p : FieldPath) → Contains (joining q) p ↔ (Contains (inequality_paths q.filter) p × IsTrue (joins q.orders p))

-- absent or null
abbrev pub IsMissing : Option Data → Type 0
IsMissing v = (v ≡ None) ⊎ (v ≡ Some null)

-- NOT_EQUAL and NOT_IN are false on null and on absent fields
abbrev pub NotOnMissing : Type 0
NotOnMissing = (p : FieldPath) (w : Data) (d : Document) → IsMissing (value_at p d) → (meets (compared p NotEqual w) d ≡ false) × (meets (compared p NotIn w) d ≡ false)

-- ordering by a field leaves out documents without it
abbrev pub OrderNeedsField : Type 0
OrderNeedsField = (q : Asked) (o : Order) (d : Document) → Contains q.orders o → value_at o.path d ≡ None → fits q d ≡ false

-- ---- projections, of fields whose keys rise at every level

-- what is at one of the paths, and below it, is as before
abbrev pub PathsAreKept : Type 0
PathsAreKept = (d : Document) (paths : List FieldPath) (p : FieldPath) (ks : List (List ℕ)) → IsTrue (is_ordered (map_of d.fields)) → Contains paths p → get_fields (p.parts ++ ks) (projected d paths).fields ≡ get_fields (p.parts ++ ks) d.fields

-- there is nothing at a path apart from all of them
abbrev pub OthersAreLeftOut : Type 0
OthersAreLeftOut = (d : Document) (paths : List FieldPath) (ks : List (List ℕ)) → ((p : FieldPath) → Contains paths p → IsApart p.parts ks) → get_fields ks (projected d paths).fields ≡ None

-- an empty map is left only where one of the paths ends at it or above it
abbrev pub NoMapIsLeftEmpty : Type 0
NoMapIsLeftEmpty = (d : Document) (paths : List FieldPath) (ks : List (List ℕ)) → get_fields ks (projected d paths).fields ≡ Some (map_of []) → (p : FieldPath) × Contains paths p × IsTrue (starts_with text_eq ks p.parts)
