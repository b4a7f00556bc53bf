-- This file defines the page that `cyclone explain` prints for a fault code. The contents of the pages that `cyclone explain` prints are
-- this project's own choice.
use Rattle.std.specs.Prelude.{ℕ, List}
use Rattle.cyc_words.specs.declared.fault.Code.{Code}
use Rattle.cyc_words.specs.declared.fault.Code.TheVariants.{UnknownByte, UnclosedComment, NumberTooLarge, TextTooLong, Memory, TooManyTokens, UnexpectedToken, UnexpectedEnd, NestingTooDeep, ListTooLong, UnknownName, DeclaredTwice, TypeMismatch, NullForNonNull}
use Rattle.cyc_words.specs.declared.fault.Code.TheVariants.{RegionNotLive, NotOutlived, EffectNotCovered, UniqueShared, NotAPlace, RegionOrKeyMisused, BadMain, OutsideLoop, EmptyVariable, LockedVariable, LoopEmptiesVariable, MissingReturn, TooManyFunctions}
use Rattle.cyc_words.specs.declared.fault.Code.TheVariants.{FrameTooLarge}
use Rattle.cyc_cli.specs.declared.pages.syntax.TheConstants.{UNKNOWN_BYTE, UNCLOSED_COMMENT, NUMBER_TOO_LARGE, TEXT_TOO_LONG, MEMORY, TOO_MANY_TOKENS, UNEXPECTED_TOKEN, UNEXPECTED_END, NESTING_TOO_DEEP, LIST_TOO_LONG}
use Rattle.cyc_cli.specs.declared.pages.types.TheConstants.{UNKNOWN_NAME, DECLARED_TWICE, TYPE_MISMATCH, NULL_FOR_NON_NULL, REGION_NOT_LIVE, NOT_OUTLIVED, EFFECT_NOT_COVERED, UNIQUE_SHARED, NOT_A_PLACE, REGION_OR_KEY_MISUSED, BAD_MAIN, OUTSIDE_LOOP}
use Rattle.cyc_cli.specs.declared.pages.flow.TheConstants.{EMPTY_VARIABLE, LOCKED_VARIABLE, LOOP_EMPTIES_VARIABLE, MISSING_RETURN}
use Rattle.cyc_cli.specs.declared.pages.limits.TheConstants.{TOO_MANY_FUNCTIONS, FRAME_TOO_LARGE}

abbrev pub page_of : Code → List ℕ
page_of UnknownByte = UNKNOWN_BYTE.now
page_of UnclosedComment = UNCLOSED_COMMENT.now
page_of NumberTooLarge = NUMBER_TOO_LARGE.now
page_of TextTooLong = TEXT_TOO_LONG.now
page_of Memory = MEMORY.now
page_of TooManyTokens = TOO_MANY_TOKENS.now
page_of UnexpectedToken = UNEXPECTED_TOKEN.now
page_of UnexpectedEnd = UNEXPECTED_END.now
page_of NestingTooDeep = NESTING_TOO_DEEP.now
page_of ListTooLong = LIST_TOO_LONG.now
page_of UnknownName = UNKNOWN_NAME.now
page_of DeclaredTwice = DECLARED_TWICE.now
page_of TypeMismatch = TYPE_MISMATCH.now
page_of NullForNonNull = NULL_FOR_NON_NULL.now
page_of RegionNotLive = REGION_NOT_LIVE.now
page_of NotOutlived = NOT_OUTLIVED.now
page_of EffectNotCovered = EFFECT_NOT_COVERED.now
page_of UniqueShared = UNIQUE_SHARED.now
page_of NotAPlace = NOT_A_PLACE.now
page_of RegionOrKeyMisused = REGION_OR_KEY_MISUSED.now
page_of BadMain = BAD_MAIN.now
page_of OutsideLoop = OUTSIDE_LOOP.now
page_of EmptyVariable = EMPTY_VARIABLE.now
page_of LockedVariable = LOCKED_VARIABLE.now
page_of LoopEmptiesVariable = LOOP_EMPTIES_VARIABLE.now
page_of MissingReturn = MISSING_RETURN.now
page_of TooManyFunctions = TOO_MANY_FUNCTIONS.now
page_of FrameTooLarge = FRAME_TOO_LARGE.now
