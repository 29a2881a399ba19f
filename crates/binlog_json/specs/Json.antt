-- A JSON value whose objects have each name once, and its compact text. A number is an integer; others, and documents, are given by their text.
use Rattle.std.specs.Prelude.{ℕ, List, [], ◌∷◌, ◌++◌, Bool, codes}
use Rattle.std.specs.Ordering.{nat_cmp, match_ordering}
use Rattle.std.specs.Cmp.Lexicographic.{slice_cmp}
use Rattle.json.specs.Print.{quoted}
use Rattle.serde_json.specs.Written.{comma_if, number_text}
pub use Rattle.serde_json.specs.Data.{Num, unsigned}

mutual
  pub data Data : Type 0 where
    null : Data
    number : Num → Data
    -- a value by its text
    written : List ℕ → Data
    string : List ℕ → Data
    array : Items → Data
    object : Members → Data

  pub data Items : Type 0 where
    no_items : Items
    item : Data → Items → Items

  pub data Members : Type 0 where
    no_members : Members
    member : List ℕ → Data → Members → Members

abbrev pub items_of : List Data → Items
items_of [] = no_items
items_of (d ∷ ds) = item d (items_of ds)

-- the members in byte order of their names, with this one
abbrev pub put : List ℕ → Data → Members → Members
put k d no_members = member k d no_members
put k d (member l e ms) = match_ordering (slice_cmp nat_cmp k l) (member k d (member l e ms)) (member l d ms) (member l e (put k d ms))

-- the text with no blank
abbrev mutual
  pub compact_text : Data → List ℕ
  compact_text null = codes "null"
  compact_text (number n) = number_text n
  compact_text (written text) = text
  compact_text (string s) = quoted s
  compact_text (array ds) = 91 ∷ items_text Bool.false ds
  compact_text (object ms) = 123 ∷ members_text Bool.false ms

  -- with the closing bracket
  pub items_text : Bool → Items → List ℕ
  items_text later no_items = 93 ∷ []
  items_text later (item d ds) = comma_if later ++ (compact_text d ++ items_text Bool.true ds)

  pub members_text : Bool → Members → List ℕ
  members_text later no_members = 125 ∷ []
  members_text later (member k d ms) = comma_if later ++ (quoted k ++ 58 ∷ (compact_text d ++ members_text Bool.true ms))
