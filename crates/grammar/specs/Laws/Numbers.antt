-- The numbers of the messages are 1 to 53. Only Unreached has none.
-- Assumes nothing.
use Rattle.std.specs.Prelude.{ℕ, ◌≡◌, refl, Bool, false, not, ◌&&◌, leb}
use Rattle.grammar.specs.declared.nesting.Closer.{Closer}
use Rattle.grammar.specs.declared.block.BlockOwner.{BlockOwner}
use Rattle.grammar.specs.declared.block.BlockRecoveryBoundary.{BlockRecoveryBoundary}
use Rattle.grammar.specs.declared.message.PlainMessage.{PlainMessage}
use Rattle.grammar.specs.Message.{Message, number, UnexpectedTopLevelToken, ExpectedNamespacePath, ExpectedMod, ExpectedSubmoduleName, ExpectedConst, ExpectedConstantName, ExpectedConstantEqual, ExpectedTypeOrEnum, ExpectedTypeName, ExpectedTypeEqualOrColon, ExpectedAdviceMapName, ExpectedAdviceMapKeyEnd, ExpectedAdviceMapEqual, ExpectedPathSegment, ExpectedProc, ExpectedProcedureName, ExpectedAttributeName, ExpectedAttributeEnd, ExpectedPackage, ExpectedPackageEnd, ExpectedParametersEnd, ExpectedResultsEnd, ExpectedResultType, DocCommentInBlock, UnexpectedTokenInBlock, ExpectedSuffixEnd, ExpectedSuffix, NestingTooDeep}

-- No message's number.
abbrev pub no_message : ℕ → Bool
no_message m = not (leb 1 m && leb m 53)

pub quiet_plain : (m : PlainMessage) → no_message (number (Message.Plain m)) ≡ false
unfolding number
quiet_plain UnexpectedTopLevelToken = refl
quiet_plain ExpectedNamespacePath = refl
quiet_plain ExpectedMod = refl
quiet_plain ExpectedSubmoduleName = refl
quiet_plain ExpectedConst = refl
quiet_plain ExpectedConstantName = refl
quiet_plain ExpectedConstantEqual = refl
quiet_plain ExpectedTypeOrEnum = refl
quiet_plain ExpectedTypeName = refl
quiet_plain ExpectedTypeEqualOrColon = refl
quiet_plain ExpectedAdviceMapName = refl
quiet_plain ExpectedAdviceMapKeyEnd = refl
quiet_plain ExpectedAdviceMapEqual = refl
quiet_plain ExpectedPathSegment = refl
quiet_plain ExpectedProc = refl
quiet_plain ExpectedProcedureName = refl
quiet_plain ExpectedAttributeName = refl
quiet_plain ExpectedAttributeEnd = refl
quiet_plain ExpectedPackage = refl
quiet_plain ExpectedPackageEnd = refl
quiet_plain ExpectedParametersEnd = refl
quiet_plain ExpectedResultsEnd = refl
quiet_plain ExpectedResultType = refl
quiet_plain DocCommentInBlock = refl
quiet_plain UnexpectedTokenInBlock = refl
quiet_plain ExpectedSuffixEnd = refl
quiet_plain ExpectedSuffix = refl
quiet_plain NestingTooDeep = refl

pub quiet_closer : (c : Closer) → no_message (number (Message.UnexpectedCloser c)) ≡ false
unfolding number
quiet_closer Closer.Paren = refl
quiet_closer Closer.Bracket = refl
quiet_closer Closer.Brace = refl

pub quiet_missing : (o : BlockOwner) → no_message (number (Message.MissingEnd o)) ≡ false
unfolding number
quiet_missing BlockOwner.Begin = refl
quiet_missing BlockOwner.Procedure = refl
quiet_missing BlockOwner.If = refl
quiet_missing BlockOwner.While = refl
quiet_missing BlockOwner.DoWhileBody = refl
quiet_missing BlockOwner.DoWhile = refl
quiet_missing BlockOwner.Repeat = refl

pub quiet_recovery : (o : BlockOwner) (x : BlockRecoveryBoundary) → no_message (number (Message.Recovery o x)) ≡ false
unfolding number
quiet_recovery BlockOwner.Begin BlockRecoveryBoundary.Else = refl
quiet_recovery BlockOwner.Begin BlockRecoveryBoundary.TopLevelItem = refl
quiet_recovery BlockOwner.Procedure BlockRecoveryBoundary.Else = refl
quiet_recovery BlockOwner.Procedure BlockRecoveryBoundary.TopLevelItem = refl
quiet_recovery BlockOwner.If BlockRecoveryBoundary.Else = refl
quiet_recovery BlockOwner.If BlockRecoveryBoundary.TopLevelItem = refl
quiet_recovery BlockOwner.While BlockRecoveryBoundary.Else = refl
quiet_recovery BlockOwner.While BlockRecoveryBoundary.TopLevelItem = refl
quiet_recovery BlockOwner.DoWhileBody BlockRecoveryBoundary.Else = refl
quiet_recovery BlockOwner.DoWhileBody BlockRecoveryBoundary.TopLevelItem = refl
quiet_recovery BlockOwner.DoWhile BlockRecoveryBoundary.Else = refl
quiet_recovery BlockOwner.DoWhile BlockRecoveryBoundary.TopLevelItem = refl
quiet_recovery BlockOwner.Repeat BlockRecoveryBoundary.Else = refl
quiet_recovery BlockOwner.Repeat BlockRecoveryBoundary.TopLevelItem = refl

pub ruleset quiet·rules = (quiet_plain, quiet_closer, quiet_missing, quiet_recovery)
