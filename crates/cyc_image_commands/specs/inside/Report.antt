-- The text that `run --report` writes about a run. A run's report is one JSON object on a line, with a fixed set of fields for all
-- runs. The form of the report is this project's own choice.
use Rattle.std.specs.Prelude.{ℕ, ℤ, List, ◌++◌, Option, Some, None, option_map, codes}
use Rattle.std.specs.Fmt.{decimal, signed_decimal}
use Rattle.cyc_emulator.specs.declared.report.Limit.{Limit}
use Rattle.cyc_emulator.specs.declared.report.Limit.TheVariants as Limit
use Rattle.cyc_emulator.specs.declared.report.Peaks.{Peaks}
use Rattle.cyc_emulator.specs.declared.report.Report.{Report}
use Rattle.cyc_host.specs.inside.Answer.{cause_words}
use Rattle.cyc_host.specs.declared.answer.Answer.{Answer}
use Rattle.cyc_host.specs.declared.answer.Answer.TheVariants.{Done, Returned, Refused, BadImage, Uncaught, Full, Trapped, Spent, ReadFault, WriteFault, NoMemory, Usage, Unformatted}

abbrev pub number_or_null : Option ℕ → List ℕ
number_or_null (Some n) = decimal n
number_or_null None = codes "null"

abbrev pub int_or_null : Option ℤ → List ℕ
int_or_null (Some n) = signed_decimal n
int_or_null None = codes "null"

-- A text in quotes, or `null`, as JSON.
abbrev pub words_or_null : Option (List ℕ) → List ℕ
words_or_null (Some words) = codes "\"" ++ (words ++ codes "\"")
words_or_null None = codes "null"

-- The way in which a run ended, as the first words of the last line that the run prints.
abbrev pub end_words : Answer → List ℕ
end_words Done = codes "done"
end_words (Returned value) = codes "returned"
end_words (Refused fault) = codes "fault"
end_words (BadImage number) = codes "image fault"
end_words (Uncaught exception value) = codes "uncaught"
end_words Full = codes "full"
end_words (Trapped cause) = codes "trap"
end_words Spent = codes "budget spent"
end_words ReadFault = codes "read fault"
end_words WriteFault = codes "write fault"
end_words NoMemory = codes "no memory"
end_words Usage = codes "usage"
end_words Unformatted = codes "not formatted"

-- The value that `main` returned, or the int that the uncaught exception carries, if the run ended in this way.
abbrev pub value_in : Answer → Option ℤ
value_in (Returned value) = Some value
value_in (Uncaught exception value) = Some value
value_in answer = None

-- The index of the uncaught exception, if one ended the run.
abbrev pub exception_in : Answer → Option ℕ
exception_in (Uncaught exception value) = Some exception
exception_in answer = None

-- The reason why the machine refused an instruction, if that ended the run.
abbrev pub cause_in : Answer → Option (List ℕ)
cause_in (Trapped cause) = Some (cause_words cause)
cause_in answer = None

-- The number of the rule about image files that the image violates, if any.
abbrev pub fault_in : Answer → Option ℕ
fault_in (BadImage number) = Some number
fault_in answer = None

-- The name of the limit (such as that on pages) whose exhaustion ended a run, if any.
abbrev pub limit_words : Option Limit → Option (List ℕ)
limit_words (Some Limit.Calls) = Some (codes "calls")
limit_words (Some Limit.Pages) = Some (codes "pages")
limit_words None = None

-- The JSON fields that describe the end of the run.
abbrev pub end_fields : Answer → List ℕ
end_fields answer = codes "{\"end\":\"" ++ (end_words answer ++ (codes "\",\"value\":" ++ (int_or_null (value_in answer)
    ++ (codes ",\"exception\":" ++ (number_or_null (exception_in answer) ++ (codes ",\"cause\":" ++ (words_or_null (cause_in answer)
    ++ (codes ",\"image_fault\":" ++ (number_or_null (fault_in answer) ++ codes ",")))))))))

-- The JSON fields about the stop of a run: the limit that was reached, the number of executed instructions, and the address of the last or
-- the next instruction.
abbrev pub place_fields : Report → List ℕ
place_fields report = codes "\"limit\":" ++ (words_or_null (limit_words report.limit)
    ++ (codes ",\"instructions\":" ++ (decimal report.count ++ (codes ",\"counter\":" ++ (decimal report.counter ++ codes ",")))))

-- The JSON fields about the resources used: the maximal numbers of active calls and pages, if they were counted, and the
-- numbers of bytes read and written.
abbrev pub amount_fields : Report → List ℕ
amount_fields report = codes "\"most_calls\":" ++ (number_or_null (option_map (λ (peaks : Peaks). peaks.calls) report.peaks)
    ++ (codes ",\"most_pages\":" ++ (number_or_null (option_map (λ (peaks : Peaks). peaks.pages) report.peaks)
    ++ (codes ",\"read\":" ++ (decimal report.read ++ (codes ",\"written\":" ++ (decimal report.written ++ codes "}\n")))))))

-- The JSON fields of all numbers in the report of a run; if there is no report, each field is null.
abbrev pub figure_fields : Option Report → List ℕ
figure_fields (Some report) = place_fields report ++ amount_fields report
figure_fields None = codes "\"limit\":null,\"instructions\":null,\"counter\":null,\"most_calls\":null,\"most_pages\":null,\"read\":null,\"written\":null}\n"

abbrev pub report_text : Answer → Option Report → List ℕ
report_text answer report = end_fields answer ++ figure_fields report
