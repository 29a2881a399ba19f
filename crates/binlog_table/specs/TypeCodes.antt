-- The numbers of columns' types (`enum_field_types`, MySQL's include/field_types.h).
use Rattle.std.specs.Prelude.{ℕ}

-- TINYINT
abbrev pub tiny : ℕ
tiny = 1

-- SMALLINT
abbrev pub short : ℕ
short = 2

-- INT
abbrev pub long : ℕ
long = 3

-- FLOAT
abbrev pub float : ℕ
float = 4

-- DOUBLE
abbrev pub double : ℕ
double = 5

-- BIGINT
abbrev pub longlong : ℕ
longlong = 8

-- MEDIUMINT
abbrev pub int24 : ℕ
int24 = 9

-- DATE
abbrev pub date : ℕ
date = 10

-- YEAR
abbrev pub year : ℕ
year = 13

-- VARCHAR and VARBINARY
abbrev pub varchar : ℕ
varchar = 15

-- BIT
abbrev pub bit_type : ℕ
bit_type = 16

-- TIMESTAMP with a fraction of a second
abbrev pub timestamp2 : ℕ
timestamp2 = 17

-- DATETIME with a fraction of a second
abbrev pub datetime2 : ℕ
datetime2 = 18

-- TIME with a fraction of a second
abbrev pub time2 : ℕ
time2 = 19

-- VECTOR, of servers from 9.0 on
abbrev pub vector : ℕ
vector = 242

-- JSON
abbrev pub json : ℕ
json = 245

-- DECIMAL
abbrev pub newdecimal : ℕ
newdecimal = 246

-- ENUM
abbrev pub enum : ℕ
enum = 247

-- SET
abbrev pub set : ℕ
set = 248

-- BLOB and TEXT of all sizes
abbrev pub blob : ℕ
blob = 252

-- VARCHAR and VARBINARY, as old tables have them
abbrev pub var_string : ℕ
var_string = 253

-- CHAR and BINARY
abbrev pub string : ℕ
string = 254

-- GEOMETRY
abbrev pub geometry : ℕ
geometry = 255
