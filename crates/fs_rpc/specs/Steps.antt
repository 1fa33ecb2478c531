-- What only private clauses cite: a member that is put in where there is something to tell.
use Rattle.std.specs.Prelude.{ℕ, List}
use Rattle.serde_json.specs.Data.{array, Items, no_items, item, Members, put}

-- a list under this name, where it has items
abbrev pub with_list_put : List ℕ → Items → Members → Members
with_list_put name no_items others = others
with_list_put name (item d ds) others = put name (array (item d ds)) others
