use Rattle.std.proofs.Common.{codes}
use Rattle.std.specs.Prelude.{string_bytes}
use Rattle.binlog_select.proofs.AppendLemmas.{OnOk-appended}
use Rattle.binlogfeed.proofs.fault.fault_line.Goals as goal

pub returns-in-Write : goal.returns-in-Write
returns-in-Write g c = rw c.in-Write.is (OnOk-appended c.push_str.result (string_bytes c.args.line.now) (codes "binlogfeed: write fault") _ c.push_str.ensures.bytes)

pub returns-in-OutOfMemory : goal.returns-in-OutOfMemory
returns-in-OutOfMemory g c = rw c.in-OutOfMemory.is (OnOk-appended c.push_str-in-OutOfMemory.result (string_bytes c.args.line.now) (codes "binlogfeed: out of memory") _ c.push_str-in-OutOfMemory.ensures.bytes)

pub returns-in-DuplicateFile : goal.returns-in-DuplicateFile
returns-in-DuplicateFile g c = rw c.in-DuplicateFile.is (rw c.file_name-name.ensures at c.write.ensures.bytes)

pub returns-in-Read : goal.returns-in-Read
returns-in-Read g c = rw c.in-Read.is (rw c.file_name-name-in-Read.ensures at c.write-in-Read.ensures.bytes)

pub returns-in-Log : goal.returns-in-Log
returns-in-Log g c = rw c.in-Log.is (rw c.file_name-name-in-Log.ensures at c.write-in-Log.ensures.bytes)

pub returns-in-Token : goal.returns-in-Token
returns-in-Token g c = rw c.in-Token.is (rw c.refusal_name-name.ensures at c.write-in-Token.ensures.bytes)
