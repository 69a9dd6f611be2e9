-- The messages' numbers, as docs/MESSAGES.md lists them: one for each text that the kept parser can report.
-- Defines: missing_end_message and recovery_message by their numbers.
-- Assumes nothing: these are definitions.
use Rattle.std.specs.Prelude.{ℕ, ◌+◌, ◌*◌}
use Rattle.grammar.specs.declared.nesting.Closer.{Closer}
use Rattle.grammar.specs.declared.block.BlockOwner.{BlockOwner}
use Rattle.grammar.specs.declared.block.BlockRecoveryBoundary.{BlockRecoveryBoundary}
use Rattle.grammar.specs.declared.message.PlainMessage.{PlainMessage}
pub use Rattle.grammar.specs.declared.message.PlainMessage.TheVariants.{UnexpectedTopLevelToken, ExpectedNamespacePath, ExpectedMod, ExpectedSubmoduleName, ExpectedConst, ExpectedConstantName, ExpectedConstantEqual, ExpectedTypeOrEnum, ExpectedTypeName, ExpectedTypeEqualOrColon, ExpectedAdviceMapName, ExpectedAdviceMapKeyEnd, ExpectedAdviceMapEqual, ExpectedPathSegment, ExpectedProc, ExpectedProcedureName, ExpectedAttributeName, ExpectedAttributeEnd, ExpectedPackage, ExpectedPackageEnd, ExpectedParametersEnd, ExpectedResultsEnd, ExpectedResultType, DocCommentInBlock, UnexpectedTokenInBlock, ExpectedSuffixEnd, ExpectedSuffix, NestingTooDeep}
pub use Rattle.grammar.specs.declared.message.Message.{Message}

abbrev pub plain_number : PlainMessage → ℕ
plain_number UnexpectedTopLevelToken = 22
plain_number ExpectedNamespacePath = 23
plain_number ExpectedMod = 24
plain_number ExpectedSubmoduleName = 25
plain_number ExpectedConst = 26
plain_number ExpectedConstantName = 27
plain_number ExpectedConstantEqual = 28
plain_number ExpectedTypeOrEnum = 29
plain_number ExpectedTypeName = 30
plain_number ExpectedTypeEqualOrColon = 31
plain_number ExpectedAdviceMapName = 32
plain_number ExpectedAdviceMapKeyEnd = 33
plain_number ExpectedAdviceMapEqual = 34
plain_number ExpectedPathSegment = 35
plain_number ExpectedProc = 36
plain_number ExpectedProcedureName = 37
plain_number ExpectedAttributeName = 38
plain_number ExpectedAttributeEnd = 39
plain_number ExpectedPackage = 40
plain_number ExpectedPackageEnd = 41
plain_number ExpectedParametersEnd = 42
plain_number ExpectedResultsEnd = 43
plain_number ExpectedResultType = 44
plain_number DocCommentInBlock = 45
plain_number UnexpectedTokenInBlock = 46
plain_number ExpectedSuffixEnd = 47
plain_number ExpectedSuffix = 48
plain_number NestingTooDeep = 49

abbrev pub closer_number : Closer → ℕ
closer_number Closer.Paren = 51
closer_number Closer.Bracket = 52
closer_number Closer.Brace = 53

abbrev pub missing_end_number : BlockOwner → ℕ
missing_end_number BlockOwner.Begin = 1
missing_end_number BlockOwner.Procedure = 2
missing_end_number BlockOwner.If = 3
missing_end_number BlockOwner.While = 4
missing_end_number BlockOwner.DoWhileBody = 5
missing_end_number BlockOwner.DoWhile = 6
missing_end_number BlockOwner.Repeat = 7

-- The owner's text, and then the boundary's.
abbrev pub recovery_number : BlockOwner → BlockRecoveryBoundary → ℕ
recovery_number o BlockRecoveryBoundary.Else = 6 + 2 * missing_end_number o
recovery_number o BlockRecoveryBoundary.TopLevelItem = 7 + 2 * missing_end_number o

unfoldable pub number : Message → ℕ
number (Message.Plain m) = plain_number m
number (Message.UnexpectedCloser c) = closer_number c
number (Message.MissingEnd o) = missing_end_number o
number (Message.Recovery o b) = recovery_number o b
number Message.UnrecognizedToken = 50
number Message.Unreached = 0
