-- Keys of changes in both styles, and which changes have a key.
use Prim.Native.String.{String}
use Rattle.std.specs.Prelude.{◌≡◌, pos, [], ◌∷◌, Some, None, Bool, true, false, codes}
use Rattle.binlog_table.specs.Value.Content.{absent, null, int, uint, year, bytes}
use Rattle.binlog_table.specs.declared.row_view.Side.{Side}
use Rattle.binlog_table.specs.declared.row_view.Side.TheVariants.{Before, After}
use Rattle.binlog_feed.specs.Changes.{RowChange}
use Rattle.binlog_json.specs.declared.style.Style.{Style}
use Rattle.binlog_json.specs.declared.style.Style.TheVariants.{Plain, Full}
use Rattle.binlog_json.specs.Keys.{key_text_as, has_key}
use Rattle.json_samples.specs.Bytes.{hex, utf8}
use Rattle.json_samples.specs.Lines.{keyed_change, keyed_update, year_change, charsets_change, two_statements}

abbrev pub HasKey : Style → RowChange → Side → String → Type 0
HasKey style change side key = key_text_as style change side ≡ Some (utf8 key)

abbrev pub NoKey : Style → RowChange → Side → Type 0
NoKey style change side = key_text_as style change side ≡ None

-- The values of the key's four columns, in its order and not in that of the table; what the new row lacks is the old row's.
abbrev pub FourColumns : Type 0
FourColumns =
    HasKey Full keyed_update Before "[\"é\",-5,{\"base64\":\"AP8AAA==\"},\"2024\"]" × HasKey Full keyed_update After "[\"é\",-5,{\"base64\":\"AP8AAA==\"},\"2025\"]"
    × HasKey Plain keyed_update Before "[{\"base64\":\"6Q==\"},4294967291,{\"base64\":\"AP8=\"},\"2024\"]"
    × HasKey Plain keyed_update After "[{\"base64\":\"6Q==\"},4294967291,{\"base64\":\"AP8=\"},\"2025\"]"
    × (HasKey Full keyed_update Before "[\"2024\",-5,\"é\",{\"base64\":\"AP8AAA==\"}]" → ⊥)

-- no old row lends the column that the new row lacks; a null is a value; a table without a key
abbrev pub MissingColumns : Type 0
MissingColumns =
    NoKey Full (keyed_change None (Some (year 2024 ∷ uint 1 ∷ bytes (hex "e9") ∷ absent ∷ int (pos 1) ∷ []))) After
    × NoKey Full (keyed_change None (Some (year 2024 ∷ uint 1 ∷ bytes (hex "e9") ∷ null ∷ int (pos 1) ∷ []))) Before
    × HasKey Full (keyed_change None (Some (year 2024 ∷ uint 1 ∷ bytes (hex "e9") ∷ null ∷ absent ∷ []))) After "[\"é\",1,null,\"2024\"]"
    × NoKey Full year_change After × NoKey Plain year_change After

-- ---- changes that have a key

abbrev pub has : Style → String → RowChange → Bool
has style key change = has_key style (codes "s") (codes "t") (utf8 key) change

-- both rows' keys; the key of the other style; a table and a schema of another name
abbrev pub KeysOfUpdate : Type 0
KeysOfUpdate =
    (has Full "[\"é\",-5,{\"base64\":\"AP8AAA==\"},\"2024\"]" keyed_update ≡ true) × (has Full "[\"é\",-5,{\"base64\":\"AP8AAA==\"},\"2025\"]" keyed_update ≡ true)
    × (has Full "[\"é\",-5,{\"base64\":\"AP8AAA==\"},\"2026\"]" keyed_update ≡ false)
    × (has Plain "[\"é\",-5,{\"base64\":\"AP8AAA==\"},\"2024\"]" keyed_update ≡ false)
    × (has Full "[{\"base64\":\"6Q==\"},4294967291,{\"base64\":\"AP8=\"},\"2024\"]" keyed_update ≡ false)
    × (has Plain "[{\"base64\":\"6Q==\"},4294967291,{\"base64\":\"AP8=\"},\"2024\"]" keyed_update ≡ true)
    × (has_key Full (codes "full") (codes "t") (utf8 "[2]") charsets_change ≡ true) × (has_key Full (codes "full") (codes "u") (utf8 "[2]") charsets_change ≡ false)
    × (has_key Full (codes "s") (codes "t") (utf8 "[2]") charsets_change ≡ false)

-- statements have no key, and are no change of a table without a name
abbrev pub StatementsWithoutKey : Type 0
StatementsWithoutKey =
    NoKey Full two_statements Before × NoKey Full two_statements After × NoKey Plain two_statements Before × NoKey Plain two_statements After
    × (has_key Plain [] [] [] two_statements ≡ false) × (has_key Full [] [] (utf8 "[]") two_statements ≡ false)
