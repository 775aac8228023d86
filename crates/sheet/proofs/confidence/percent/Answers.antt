-- `sheet::confidence::percent` meets its contract: each of its three ends is a law of `proofs/Percent.antt`, on the product that the two tests have placed.
-- Assumes nothing.
use mathlib.Core.Path.{sym}
use native.Mathlib.Omega.{arith}
use lib.Ieee.{binary32, mul, to_bits, to_unsigned}
use Rattle.sheet.specs.Confidence.{hundred, percent_of}
use Rattle.sheet.proofs.Percent.{Cut, most, least, between, no_nan}
use Rattle.sheet.proofs.confidence.percent.Goals as goal
use Rattle.sheet.proofs.confidence.percent.Goals.{Then-product-2}

pub returns-then-product : goal.returns-then-product
unfolding percent_of
returns-then-product c = sym (most _ c.if-product.true)

pub float_to_bits-bits : goal.float_to_bits-bits
float_to_bits-bits c = no_nan _ c.if-product-2.true

-- what both tests say of the bits
placed : (c : Then-product-2) → let x = mul binary32 c.args.confidence hundred in Cut (to_bits binary32 x) (to_unsigned 8 x)
placed c = between _ c.if-product.false c.if-product-2.true

pub overflow_cast-bits : goal.overflow_cast-bits
overflow_cast-bits c = omega (arith, placed c)

pub overflow_sub-result : goal.overflow_sub-result
overflow_sub-result c = omega (arith, placed c)

pub overflow_shr-result : goal.overflow_shr-result
overflow_shr-result c = omega (arith, placed c)

pub returns-then-product-2 : goal.returns-then-product-2
unfolding percent_of
returns-then-product-2 c = (placed c).shifted

pub returns : goal.returns
unfolding percent_of
returns c = sym (least _ c.if-product-2.false)
