use Rattle.std.proofs.Common.{codes}
use Rattle.std.specs.Prelude.{string_bytes}
use Rattle.binlog_select.proofs.AppendLemmas.{OnOk-appended}
use Rattle.binlogfeed.proofs.words_fault.words_line.Goals as goal

pub returns-in-CommandLine : goal.returns-in-CommandLine
returns-in-CommandLine c = rw c.in-CommandLine.is (OnOk-appended c.push_str.result (string_bytes c.args.line.now) (codes "binlogfeed: command line refused") _ c.push_str.ensures.bytes)

pub returns-in-EventName : goal.returns-in-EventName
returns-in-EventName c = rw c.in-EventName.is c.write.ensures.bytes

pub returns-in-Set : goal.returns-in-Set
returns-in-Set c = rw c.in-Set.is c.write-in-Set.ensures.bytes

pub returns-in-Token : goal.returns-in-Token
returns-in-Token c = rw c.in-Token.is (OnOk-appended c.push_str-in-Token.result (string_bytes c.args.line.now) (codes "binlogfeed: token refused: BadToken") _ c.push_str-in-Token.ensures.bytes)

pub returns-in-Key : goal.returns-in-Key
returns-in-Key c = rw c.in-Key.is (OnOk-appended c.push_str-in-Key.result (string_bytes c.args.line.now) (codes "binlogfeed: bad --key") _ c.push_str-in-Key.ensures.bytes)

pub returns-in-OutOfMemory : goal.returns-in-OutOfMemory
returns-in-OutOfMemory c = rw c.in-OutOfMemory.is (OnOk-appended c.push_str-in-OutOfMemory.result (string_bytes c.args.line.now) (codes "binlogfeed: out of memory") _ c.push_str-in-OutOfMemory.ensures.bytes)
