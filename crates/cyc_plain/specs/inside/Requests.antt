-- Requests to the store (the heap of regions): their operands, and the slots that receive the result.
use Rattle.std.specs.Prelude.{ℕ, ◌+◌, ◌*◌, Option, Some, None}
use Rattle.cyc_plain.specs.declared.instruction.Operand.{Operand}
use Rattle.cyc_plain.specs.declared.instruction.Request.{Request}
use Rattle.cyc_plain.specs.declared.instruction.Request.TheVariants as requests

-- Returns the first operand of a request to the store, if the request has an operand. A request has at most two operands.
abbrev pub first_operand : Request → Option Operand
first_operand (requests.OpenLexical destination) = None
first_operand (requests.CloseTo mark) = Some mark
first_operand (requests.OpenDynamic destination) = None
first_operand (requests.CloseDynamic handle) = Some handle
first_operand (requests.Allocate destination handle words) = Some handle
first_operand (requests.Free address) = Some address

abbrev pub second_operand : Request → Option Operand
second_operand (requests.Allocate destination handle words) = Some words
second_operand request = None

-- Returns the number of words of a request's result.
abbrev pub answer_count : Request → ℕ
answer_count (requests.OpenLexical destination) = 2
answer_count (requests.CloseTo mark) = 0
answer_count (requests.OpenDynamic destination) = 1
answer_count (requests.CloseDynamic handle) = 0
answer_count (requests.Allocate destination handle words) = 1
answer_count (requests.Free address) = 0

-- Returns the first of the slots that receive the result of a request, if it has one.
abbrev pub destination_of : Request → ℕ
destination_of (requests.OpenLexical destination) = destination
destination_of (requests.OpenDynamic destination) = destination
destination_of (requests.Allocate destination handle words) = destination
destination_of request = 0

abbrev pub operand_size : Option Operand → ℕ
operand_size None = 0
operand_size (Some operand) = 3

-- Returns an upper bound of the words of machine code for a request.
abbrev pub request_size : Request → ℕ
request_size request =
    2 + operand_size (first_operand request) + operand_size (second_operand request) + 3 * answer_count request
