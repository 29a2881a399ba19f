-- The numbers of the column types, and of the real types of STRING.
use Rattle.std.specs.Prelude.{ℕ}

abbrev pub tiny : ℕ
tiny = 1

abbrev pub short : ℕ
short = 2

abbrev pub long : ℕ
long = 3

abbrev pub float : ℕ
float = 4

abbrev pub double : ℕ
double = 5

abbrev pub longlong : ℕ
longlong = 8

abbrev pub int24 : ℕ
int24 = 9

abbrev pub date : ℕ
date = 10

abbrev pub year : ℕ
year = 13

abbrev pub varchar : ℕ
varchar = 15

abbrev pub bit : ℕ
bit = 16

abbrev pub timestamp2 : ℕ
timestamp2 = 17

abbrev pub datetime2 : ℕ
datetime2 = 18

abbrev pub time2 : ℕ
time2 = 19

abbrev pub json : ℕ
json = 245

abbrev pub newdecimal : ℕ
newdecimal = 246

abbrev pub blob : ℕ
blob = 252

abbrev pub var_string : ℕ
var_string = 253

-- CHAR and BINARY; by the first byte of its metadata also ENUM, f7, and SET, f8
abbrev pub string : ℕ
string = 254

abbrev pub geometry : ℕ
geometry = 255
