-- Where a value ends in the bytes of a row image (Table_map_event, "Table_table_map_event column types").
use Rattle.std.specs.Prelude.{◌≡◌, ℕ, ◌+◌, ◌/◌, ◌≤◌, List, length, Option, Some, None, nat_le, if◌then◌else◌}
use Rattle.byteorder.specs.Endian.{little_number}
use Rattle.binlog_table.specs.declared.column.Layout.{Layout}
use Rattle.binlog_table.specs.declared.column.Layout.TheVariants as layouts
use Rattle.binlog_table.specs.declared.extent.Extent.{Extent}
use Rattle.binlog_table.specs.declared.extent.Extent.TheVariants.{Fixed, Prefixed}
use Rattle.binlog_table.specs.Decimal.{decimal_len}

-- how many bytes a fraction of a second takes, by its number of digits
abbrev pub fraction_len : ℕ → ℕ
fraction_len precision = (precision + 1) / 2

abbrev pub extent_of : Layout → Extent
extent_of (layouts.Integer w) = Fixed w
extent_of layouts.Year = Fixed 1
extent_of layouts.Date = Fixed 3
extent_of (layouts.Text w) = Prefixed w
extent_of (layouts.Raw w) = Prefixed w
extent_of (layouts.Float w) = Fixed w
extent_of (layouts.Bits w) = Fixed w
extent_of (layouts.Timestamp f) = Fixed (4 + fraction_len f)
extent_of (layouts.DateTime f) = Fixed (5 + fraction_len f)
extent_of (layouts.Time f) = Fixed (3 + fraction_len f)
extent_of (layouts.Decimal d) = Fixed (decimal_len d.precision d.scale)
extent_of (layouts.Enum w) = Fixed w
extent_of (layouts.Set w) = Fixed w

-- The bytes have that extent: so many bytes, or a length of some bytes and as many bytes as it says.
abbrev pub HasExtent : Extent → List ℕ → Type 0
HasExtent (Fixed n) text = length text ≡ n
HasExtent (Prefixed w) text = (w ≤ length text) × (length text ≡ w + little_number w text)

-- how many of the bytes the text at the front takes
unfoldable pub extent_len : Extent → List ℕ → Option ℕ
extent_len (Fixed n) bytes = if nat_le n (length bytes) then Some n else None
extent_len (Prefixed w) bytes =
    if nat_le w (length bytes) then (if nat_le (w + little_number w bytes) (length bytes) then Some (w + little_number w bytes) else None) else None
