-- Tests of points.
mod Balances
mod Served
