-- What was written token by token is read as the value that it was written of.
use Rattle.std.proofs.Common.{◌≡◌, ℕ, ℤ, suc, ◌≤◌, List, [], ◌∷◌, ◌++◌, Option, Some, Ok, codes, option_and_then, option_map, refl, sym, ap, subst, ◌∙◌, arith, append_assoc}
use Rattle.std.specs.Prelude.{IsTrue}
use Rattle.std.specs.FinMap.{is_sorted}
use Rattle.std.specs.FinMap.Entries.{below_all}
use Rattle.std.proofs.lemmas.Bool.{and_from, and_parts}
use Rattle.std.proofs.lemmas.List.{append-nil}
use Rattle.json.specs.Lex.{tokens}
use Rattle.json.specs.Token.{Token}
use Rattle.json.specs.Json as tree
use Rattle.json.specs.Tree as trees
use Rattle.json.proofs.Printed.Trees.{value-json_tokens}
use Rattle.serde_json.specs.Data as json
use Rattle.serde_json.specs.Read.{max_depth, of_items, of_json, of_members, read}
use Rattle.serde_json.specs.Written.{items_outline, members_outline, outline}
use Rattle.fs_json.specs.Members.{with_one}
use Rattle.fs_json.specs.Time.{moment_at, IsTimeHeld}
use Rattle.fs_path.specs.TextOrder.{text_cmp}
use Rattle.fs_time.specs.Rfc3339.{time_of, time_text}
use Rattle.fs_value.specs.Data.{Data, null, boolean, integer, timestamp, string, bytes, reference, array, object, Items, no_items, item, Members, no_members, member, fields_of, items_of, members_of}
use Rattle.fs_value.specs.DataLaws.{fields_of-members_of, members_of-fields_of}
use Rattle.fs_value.specs.declared.document.Document.{Document}
use Rattle.fs_valjson.specs.Document.{document_json}
use Rattle.fs_valjson.specs.Held.{IsHeld, ItemsAreHeld, MembersAreHeld}
use Rattle.fs_valjson.specs.Tokens.{tokens_of, IsReadFromTokens}
use Rattle.fs_valjson.specs.Writing.{items_json, list_json, members_json, value_json}
use Rattle.fs_valjson.proofs.Written.{put_last}

-- ---- a time by its text

-- a time whose text is read back is held
pub time_held : (z : ℤ) (text : List ℕ) → text ≡ time_text z → time_of text ≡ Ok z → IsTimeHeld z
time_held z text is again = λ place. ap (moment_at place) (ap time_of (sym is) ∙ again)

-- ---- a text by its tokens

-- an outline nests as its value does
mutual
  outline_depth : (d : json.Data) → trees.depth (outline d) ≡ json.depth d
  outline_depth json.null = refl
  outline_depth (json.boolean b) = refl
  outline_depth (json.number n) = refl
  outline_depth (json.string s) = refl
  outline_depth (json.array ds) = ap suc (items_outline_depth ds)
  outline_depth (json.object ms) = ap suc (members_outline_depth ms)

  items_outline_depth : (ds : json.Items) → trees.items_depth (items_outline ds) ≡ json.items_depth ds
  items_outline_depth json.no_items = refl
  items_outline_depth (json.item d ds) = rw (outline_depth d, items_outline_depth ds) refl

  members_outline_depth : (ms : json.Members) → trees.members_depth (members_outline ms) ≡ json.members_depth ms
  members_outline_depth json.no_members = refl
  members_outline_depth (json.member k d ms) = rw (outline_depth d, members_outline_depth ms) refl

-- what a text is read as, by the value of its tokens
abbrev whole : Option (tree.Json × List Token) → Option json.Data
whole found = option_and_then of_json (option_and_then (λ p. tree.if_last p.0 p.1) found)

pub read_of_tokens : (d : json.Data) (text : List ℕ) → tokens text ≡ tokens_of d → IsReadFromTokens d → json.depth d ≤ max_depth → read text ≡ Some d
read_of_tokens d text same plain shallow =
    ap whole (ap (tree.value max_depth) (same ∙ sym (append-nil (tokens_of d))) ∙ value-json_tokens (outline d) max_depth [] (omega (arith, outline_depth d))) ∙ plain

-- ---- objects and lists

pub one_from_tokens : (k : List ℕ) (d : json.Data) → IsReadFromTokens d → IsReadFromTokens (with_one k d)
one_from_tokens k d h = rw h refl

pub list_from_tokens : (ds : json.Items) → of_items (items_outline ds) ≡ Some ds → IsReadFromTokens (json.array ds)
list_from_tokens ds h = ap (option_map json.array) h

pub object_from_tokens : (ms : json.Members) → of_members (members_outline ms) json.no_members ≡ Some ms → IsReadFromTokens (json.object ms)
object_from_tokens ms h = ap (option_map json.object) h

-- ---- keys that rise

below_front : (k : List ℕ) (xs ys : List (List ℕ × Data)) → IsTrue (below_all text_cmp k (xs ++ ys)) → IsTrue (below_all text_cmp k xs)
below_front k [] ys h = refl
below_front k (x ∷ xs) ys h =
    let parts = and_parts _ (below_all text_cmp k (xs ++ ys)) h in
    and_from _ _ parts.0 (below_front k xs ys parts.1)

sorted_front : (xs ys : List (List ℕ × Data)) → IsTrue (is_sorted text_cmp (xs ++ ys)) → IsTrue (is_sorted text_cmp xs)
sorted_front [] ys h = refl
sorted_front (x ∷ xs) ys h =
    let parts = and_parts _ (is_sorted text_cmp (xs ++ ys)) h in
    and_from _ _ (below_front x.0 xs ys parts.0) (sorted_front xs ys parts.1)

held_sorted : (ms : Members) → MembersAreHeld ms → IsTrue (is_sorted text_cmp (fields_of ms))
held_sorted no_members h = refl
held_sorted (member k d ms) h = and_from _ _ h.1 (held_sorted ms h.2)

-- ---- values

mutual
  value_from_tokens : (d : Data) → IsHeld d → IsReadFromTokens (value_json d)
  value_from_tokens null h = refl
  value_from_tokens (boolean b) h = refl
  value_from_tokens (integer n) h = refl
  value_from_tokens (timestamp t) h = refl
  value_from_tokens (string s) h = refl
  value_from_tokens (bytes b) h = refl
  value_from_tokens (reference n) h = refl
  value_from_tokens (array no_items) h = refl
  value_from_tokens (array (item d ds)) h =
      let all = list_from_tokens (items_json (item d ds)) (items_from_tokens (item d ds) h) in
      one_from_tokens (codes "arrayValue") _ (one_from_tokens (codes "values") _ all)
  value_from_tokens (object no_members) h = refl
  value_from_tokens (object (member k d ms)) h =
      let told = members_from_tokens (member k d ms) [] h (held_sorted (member k d ms) h) ∙ ap (λ xs. Some (members_json xs)) (members_of-fields_of (member k d ms)) in
      let all = object_from_tokens (members_json (member k d ms)) told in
      one_from_tokens (codes "mapValue") _ (one_from_tokens (codes "fields") _ all)

  items_from_tokens : (ds : Items) → ItemsAreHeld ds → of_items (items_outline (items_json ds)) ≡ Some (items_json ds)
  items_from_tokens no_items h = refl
  items_from_tokens (item d ds) h = rw (value_from_tokens d h.0, items_from_tokens ds h.1) refl

  -- behind those that are in their places
  members_from_tokens : (ms : Members) (fs : List (List ℕ × Data)) → MembersAreHeld ms → IsTrue (is_sorted text_cmp (fs ++ fields_of ms))
      → of_members (members_outline (members_json ms)) (members_json (members_of fs)) ≡ Some (members_json (members_of (fs ++ fields_of ms)))
  members_from_tokens no_members fs h rise = ap (λ xs. Some (members_json (members_of xs))) (sym (append-nil fs))
  members_from_tokens (member k d ms) fs h rise =
      let more = fs ++ (k, d) ∷ [] in
      let same : more ++ fields_of ms ≡ fs ++ (k, d) ∷ fields_of ms = append_assoc fs ((k, d) ∷ []) (fields_of ms) in
      let rising : IsTrue (is_sorted text_cmp (more ++ fields_of ms)) = subst (λ xs. IsTrue (is_sorted text_cmp xs)) (sym same) rise in
      let placed = put_last fs k d (sorted_front more (fields_of ms) rising) in
      rw (value_from_tokens d h.0, placed) (members_from_tokens ms more h.2 rising ∙ ap (λ xs. Some (members_json (members_of xs))) same)

-- the values of a list
pub values_from_tokens : (ds : List Data) → ItemsAreHeld (items_of ds) → IsReadFromTokens (list_json ds)
values_from_tokens ds h = list_from_tokens (items_json (items_of ds)) (items_from_tokens (items_of ds) h)

-- ---- documents

fields_from_tokens : (f : List ℕ × Data) (fs : List (List ℕ × Data)) → MembersAreHeld (members_of (f ∷ fs)) → IsReadFromTokens (json.object (members_json (members_of (f ∷ fs))))
fields_from_tokens f fs h =
    let ms = members_of (f ∷ fs) in
    let all = members_from_tokens ms [] h (held_sorted ms h) ∙ ap (λ xs. Some (members_json (members_of xs))) (fields_of-members_of (f ∷ fs)) in
    object_from_tokens (members_json ms) all

pub document_from_tokens : (d : Document) (fs : List (List ℕ × Data)) → d.fields ≡ fs → MembersAreHeld (members_of fs) → IsReadFromTokens (document_json d)
unfolding document_json
document_from_tokens d [] same h = rw same refl
document_from_tokens d (f ∷ fs) same h = rw (same, fields_from_tokens f fs h) refl
